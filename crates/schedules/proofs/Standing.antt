-- An accepted update of a fresh plan leaves the definition's tables in the used places, or, where it answers "unchanged", a plan with no
-- groups. Either way the lookups hand back the definition's members, bodies and positions, whatever stands behind.
use Rattle.std.proofs.Common.{ℕ, ◌*◌, ◌/◌, ◌%◌, ◌≤◌, ◌<◌, ◌≡◌, refl, sym, ap, ◌∙◌, subst, Bool, true, false, ◌&&◌, cond, List, [], ◌++◌, map, append-nil, arith, leb, ltb, eqb, length, get_or, drop, length-append, ext_get_or, eqb-true, ltb-true, leb-true}
use Rattle.std.proofs.Math.ListN.{length-map, get_or-map}
use Rattle.std.proofs.lemmas.Bool.{eqb-false}
use Rattle.lists.specs.Basics.{range}
use Rattle.lists.proofs.Laws.{and_left, and_right, clashes, by_cases, no_length}
use Rattle.lists.proofs.Ranges.{length-map-range, map-range-at}
use Rattle.frame.specs.Frames.{counts_known, end_count}
use Rattle.frame.specs.Questions.{even, bits}
use Rattle.frame.proofs.Questions.{passed}
use Rattle.groups.specs.Groups.{Plan, pairs_of, counted_parts, colors_of, color_from, group_count, members, group_bodies, positions, flatten, plan_from, with_counts}
use Rattle.groups.proofs.Pairs.{pairs_length, two_ends}
use Rattle.groups.proofs.Counts.{parts_long}
use Rattle.constraint_coloring.specs.declared.ConstraintColoring.{ConstraintColoring}
use Rattle.constraint_coloring.specs.declared.Update.{Update}
use Rattle.plan_questions.specs.Plans.{Tables, update_refusal}
use Rattle.plan_questions.proofs.Questions.{few}
use Rattle.plan_questions.proofs.Lookups.{group_part_lem, positions-asked, positions_found}
use Rattle.constraint_coloring.specs.Calls.{fresh_plan, plan_after, carried, holds, refusal_with, changes_with, written, Leaves, Updated}
use Rattle.plan_history.specs.Memory.{fresh, plan_for}
use Rattle.plan_history.proofs.Memory.{remembers}
use Rattle.multi_coloring.specs.declared.MultiColoring.{MultiColoring}
use Rattle.multi_coloring.specs.Counts.{multi_update_refusal}
use Rattle.multi_coloring.specs.Calls.{fresh_multi, multi_holds, multi_roomy, multi_refusal_with, multi_changes_with, numbers_of, MultiUpdated}
use Rattle.colored_bodies.specs.declared.BodyBinding.{BodyBinding}
use Rattle.colored_bodies.specs.Bindings.{take_of}
use Rattle.schedules.specs.Runs.{freshly, members_in, bodies_in, lookup_refusal, lookup_of, take_rank}
use Rattle.schedules.specs.Condition.{standing}
use Rattle.schedules.proofs.Places.{places-asked, places_found}

-- ---- plans of the constraints cs
module _ (flags : List ℕ) (cs : List (List ℕ)) where
  abbrev colors : List ℕ
  colors = colors_of flags cs

  abbrev nb : ℕ
  nb = length flags

  abbrev places : ℕ → List ℕ
  places r = positions nb cs colors r

  -- what the lookups in a plan hand back: groups, members, bodies, and the take of a rank
  pub record Lookups (p : Plan) : Type 0 where
    pub groups : p.groups ≡ group_count colors
    pub members : (k : ℕ) → k < p.groups → members_in p k ≡ members colors k
    pub bodies : (k : ℕ) → k < p.groups → bodies_in p k ≡ group_bodies nb cs colors k
    pub takes : (b : BodyBinding) (r : ℕ) → take_rank p b r ≡ cond (ltb r (length cs)) (take_of b (places r)) (record { refusal = 12; handed = []; after = b })

  -- the counts by which positions are read: none, where each constraint has two endpoints; else how many each has, with whatever stands behind
  pub record Counted (counts : List ℕ) : Type 0 where
    pub pairs : length counts ≡ 0 → (r : ℕ) → r < length cs → length (get_or cs r []) ≡ 2
    pub each : (length counts ≡ 0 → ⊥) → (rest : List ℕ) × (counts ≡ map length cs ++ rest) × (counts_known (map length cs) ≡ true)

  pub counted_pairs : ((r : ℕ) → r < length cs → length (get_or cs r []) ≡ 2) → Counted []
  counted_pairs two = record { pairs = λ e. two; each = λ e. absurd (e refl) }

  pub counted-each : (counts rest : List ℕ) → map length cs ≡ counts → counts_known counts ≡ true → Counted (counts ++ rest)
  counted-each counts rest e k = record {
    pairs = λ z r h. absurd (omega (arith, z, length-append counts rest, ap length e, length-map cs length));
    each = λ z. (rest, ap (λ (l : List ℕ). l ++ rest) (sym e), rw e k);
  }

  -- a plan whose tables hold the definition's in their used places
  record Behind (p : Plan) : Type 0 where
    groups : p.groups ≡ (plan_from flags cs).groups
    constraints : p.constraints ≡ (plan_from flags cs).constraints
    v : List ℕ
    w : List ℕ
    x : List ℕ
    y : List ℕ
    z : List ℕ
    color_offsets : p.color_offsets ≡ (plan_from flags cs).color_offsets ++ v
    colored_constraints : p.colored_constraints ≡ (plan_from flags cs).colored_constraints ++ w
    color_body_offsets : p.color_body_offsets ≡ (plan_from flags cs).color_body_offsets ++ x
    color_bodies : p.color_bodies ≡ (plan_from flags cs).color_bodies ++ y
    positions : p.positions ≡ (plan_from flags cs).positions ++ z
    counted : Counted p.counts

  many : (r : ℕ) → length (places r) ≡ length (get_or cs r [])
  unfolding positions
  many r = length-map (get_or cs r []) _

  sizes : map length cs ≡ map (λ r. length (places r)) (range (length cs))
  sizes = ext_get_or 0 (map length cs) (map (λ r. length (places r)) (range (length cs)))
      (length-map cs length ∙ sym (length-map-range (λ r. length (places r)) (length cs)))
      (λ r h. let l : r < length cs = omega (arith, length-map cs length) in
      get_or-map length cs r [] ∙ sym (map-range-at (λ s. length (places s)) 0 (length cs) r l ∙ many r))

  module _ (few : length cs ≤ 8192) where
    -- the positions of a constraint, by counts or not
    located : (p : Plan) (z : List ℕ) → p.constraints ≡ length cs → p.positions ≡ flatten places (length cs) ++ z → Counted p.counts
        → (r : ℕ) → (lookup_refusal p r ≡ cond (ltb r (length cs)) 0 12) × (r < length cs → lookup_of p r ≡ places r)
    unfolding lookup_refusal lookup_of
    located p z n t c r = by_cases (eqb (length p.counts) 0)
        (λ e.
        let two : (s : ℕ) → s < length cs → length (places s) ≡ 2 = λ s h. many s ∙ c.pairs (eqb-true (length p.counts) 0 e) s h in
        (rw (e, n, t) (positions-asked places (length cs) two z r few), λ h. rw (e, t) (positions_found places (length cs) two z r h)))
        (λ e.
        let k = c.each (eqb-false (length p.counts) 0 e) in (
          rw (e, n, t, k.1) (places-asked places (length cs) (map length cs) k.0 z sizes k.2 r few),
          λ h. rw (e, n, t, k.1) (places_found places (length cs) (map length cs) k.0 z sizes k.2 r h),
        ))

    take_located : (p : Plan) (z : List ℕ) → p.constraints ≡ length cs → p.positions ≡ flatten places (length cs) ++ z → Counted p.counts
        → (b : BodyBinding) (r : ℕ) → take_rank p b r ≡ cond (ltb r (length cs)) (take_of b (places r)) (record { refusal = 12; handed = []; after = b })
    unfolding take_rank
    take_located p z n t c b r =
        let l = located p z n t c r in
        by_cases (ltb r (length cs)) (λ e. rw (l.0, e, l.1 (ltb-true r (length cs) e))) (λ e. rw (l.0, e))

    behind : (p : Plan) → Behind p → Lookups p
    unfolding members_in bodies_in plan_from
    behind p h = record {
      groups = h.groups;
      members = λ k l. rw (h.groups, h.color_offsets, h.colored_constraints) (group_part_lem (members colors) (group_count colors) h.v h.w k (subst (λ (n : ℕ). k < n) h.groups l));
      bodies = λ k l. rw (h.groups, h.color_body_offsets, h.color_bodies) (group_part_lem (group_bodies nb cs colors) (group_count colors) h.x h.y k (subst (λ (n : ℕ). k < n) h.groups l));
      takes = take_located p h.z h.constraints h.positions h.counted;
    }

    -- the definition's plan
    plan_lookups : (counts : List ℕ) → Counted counts → Lookups (with_counts counts (plan_from flags cs))
    plan_lookups counts c = behind (with_counts counts (plan_from flags cs)) (record {
      groups = refl;
      constraints = refl;
      v = [];
      w = [];
      x = [];
      y = [];
      z = [];
      color_offsets = sym (append-nil (plan_from flags cs).color_offsets);
      colored_constraints = sym (append-nil (plan_from flags cs).colored_constraints);
      color_body_offsets = sym (append-nil (plan_from flags cs).color_body_offsets);
      color_bodies = sym (append-nil (plan_from flags cs).color_bodies);
      positions = sym (append-nil (plan_from flags cs).positions);
      counted = c;
    })

    -- with no constraints there are no groups
    empty : cs ≡ [] → (counts : List ℕ) (u : Tables) → Counted counts → Lookups (standing fresh_plan counts u)
    unfolding colors_of color_from group_count flatten
    empty e counts u c = record {
      groups = rw e;
      members = λ k l. absurd (omega (arith, l));
      bodies = λ k l. absurd (omega (arith, l));
      takes = take_located (standing fresh_plan counts u) u.constraint_body_positions (rw e) (rw e) c;
    }

    -- what an update leaves that takes a fresh plan to the definition's, or keeps it where there are no constraints
    left : (changed : Bool) (ends counts k : List ℕ) (q : ConstraintColoring) (t u : Tables) → (changed ≡ false → cs ≡ []) → q ≡ cond changed (carried (plan_from flags cs)) fresh_plan
        → Leaves changed flags ends (with_counts k (plan_from flags cs)) t u → Counted counts → Lookups (standing q counts u)
    unfolding written
    left true ends counts k q t u none e l c = rw e (behind (standing (carried (plan_from flags cs)) counts u) (record {
      groups = refl;
      constraints = refl;
      v = drop (length (plan_from flags cs).color_offsets) t.color_offsets;
      w = drop (length (plan_from flags cs).colored_constraints) t.colored_constraints;
      x = drop (length (plan_from flags cs).color_body_offsets) t.color_body_offsets;
      y = drop (length (plan_from flags cs).color_bodies) t.color_bodies;
      z = drop (length (plan_from flags cs).positions) t.constraint_body_positions;
      color_offsets = l.color_offsets;
      colored_constraints = l.colored_constraints;
      color_body_offsets = l.color_body_offsets;
      color_bodies = l.color_bodies;
      positions = l.constraint_body_positions;
      counted = c;
    }))
    left false ends counts k q t u none e l c = rw e (empty (none refl) counts u c)

-- ---- pairs
module _ (flags pairs : List ℕ) (room : Bool) (ok : update_refusal flags pairs room ≡ 0) where
  -- what the questions of an update say
  pub asked_pairs : (length pairs / 2 ≤ 8192) × (length pairs ≡ 2 * (length pairs / 2))
  unfolding update_refusal
  asked_pairs =
      let q3 = passed (few flags pairs) _ 2 ok in
      let q4 = passed (even pairs) _ 3 q3.1 in
      (leb-true _ _ (and_right (leb (length flags) 4096) (leb (length pairs / 2) 8192) q3.0), omega (arith, eqb-true (length pairs % 2) 0 q4.0))

  pub few_pairs : length (pairs_of pairs) ≤ 8192
  few_pairs = omega (arith, asked_pairs.0, pairs_length (length pairs / 2) pairs asked_pairs.1)

  two : Counted flags (pairs_of pairs) []
  two = counted_pairs flags (pairs_of pairs) (λ r h. two_ends pairs r h)

-- the definition's plan, and that of an update, as its contract says
pub fresh_pairs : (flags pairs : List ℕ) → update_refusal flags pairs true ≡ 0 → Lookups flags (pairs_of pairs) (freshly flags [] pairs)
unfolding freshly plan_from
fresh_pairs flags pairs ok =
    rw (ap plan_for (remembers fresh flags pairs true ok)) (plan_lookups flags (pairs_of pairs) (few_pairs flags pairs true ok) [] (two flags pairs true ok))

pub updated_pairs : (flags pairs : List ℕ) (t u : Tables) (r : Update ConstraintColoring) → refusal_with t flags pairs ≡ 0 → Updated fresh_plan flags pairs t u r → Lookups flags (pairs_of pairs) (standing (plan_after fresh_plan r) [] u)
unfolding changes_with refusal_with holds
updated_pairs flags pairs t u r ok up =
    left flags (pairs_of pairs) (few_pairs flags pairs _ ok) (changes_with fresh_plan t flags pairs) pairs [] (plan_from flags (pairs_of pairs)).counts (plan_after fresh_plan r) t u none up.plan up.tables (two flags pairs _ ok)
  where
    -- "unchanged" is answered where there are no pairs
    none : changes_with fresh_plan t flags pairs ≡ false → pairs_of pairs ≡ []
    none e = by_cases (holds fresh_plan t flags pairs)
        (λ same.
        let nothing = and_left (eqb (length flags) 0 && eqb (length pairs / 2) 0) _ (and_left (eqb (length flags) 0 && eqb (length pairs / 2) 0 && _) _ same) in
        let half = eqb-true (length pairs / 2) 0 (and_right (eqb (length flags) 0) (eqb (length pairs / 2) 0) nothing) in
        ap pairs_of (no_length pairs (omega (arith, (asked_pairs flags pairs _ ok).1, half))))
        (λ new. clashes (changes_with fresh_plan t flags pairs) (rw (ok, new)) e)

-- ---- constraints that have a count each
module _ (flags ends counts : List ℕ) (room : Bool) (ok : multi_update_refusal flags ends counts room ≡ 0) where
  pub asked-counts : (leb (length flags) 4096 ≡ true) × (length counts ≤ 8192) × (end_count counts ≡ length ends) × (bits flags ≡ true) × (counts_known counts ≡ true)
  unfolding multi_update_refusal
  asked-counts =
      let q3 = passed (leb (length flags) 4096 && leb (length counts) 8192) _ 2 ok in
      let q4 = passed (eqb (end_count counts) (length ends)) _ 3 q3.1 in
      let q5 = passed (bits flags && counts_known counts) _ 4 q4.1 in (
        and_left (leb (length flags) 4096) (leb (length counts) 8192) q3.0,
        leb-true _ _ (and_right (leb (length flags) 4096) (leb (length counts) 8192) q3.0),
        eqb-true (end_count counts) (length ends) q4.0,
        and_left (bits flags) (counts_known counts) q5.0,
        and_right (bits flags) (counts_known counts) q5.0,
      )

  long : map length (counted_parts counts ends) ≡ counts
  long = parts_long counts ends (omega (arith, asked-counts.2))

  pub few-counts : length (counted_parts counts ends) ≤ 8192
  few-counts = omega (arith, asked-counts.1, ap length long, length-map (counted_parts counts ends) length)

  each : (rest : List ℕ) → Counted flags (counted_parts counts ends) (counts ++ rest)
  each rest = counted-each flags (counted_parts counts ends) counts rest long asked-counts.4

pub fresh-counts : (flags ends counts : List ℕ) → multi_update_refusal flags ends counts true ≡ 0 → Lookups flags (counted_parts counts ends) (freshly flags counts ends)
unfolding freshly update_refusal
fresh-counts flags ends counts ok =
    let a = asked-counts flags ends counts true ok in
    by_cases (eqb (length counts) 0)
    (λ z.
    let c : counts ≡ [] = no_length counts (eqb-true (length counts) 0 z) in
    let e : ends ≡ [] = no_length ends (omega (arith, a.2, ap end_count c)) in
    let p : update_refusal flags [] true ≡ 0 = rw (a.0, a.3) refl in
    rw (c, e) (fresh_pairs flags [] p))
    (λ z. rw z (plan_lookups flags (counted_parts counts ends) (few-counts flags ends counts true ok) counts (rw append-nil at (each flags ends counts true ok []))))

module _ (flags ends counts : List ℕ) (t u : Tables) (c c' : List ℕ) (r : Update MultiColoring) (ok : multi_refusal_with t c flags ends counts ≡ 0) (up : MultiUpdated fresh_multi flags ends counts t c u c' r) where
  abbrev parts : List (List ℕ)
  parts = counted_parts counts ends

  abbrev changes : Bool
  changes = multi_changes_with fresh_multi t c flags ends counts

  passes : multi_update_refusal flags ends counts (multi_roomy t c flags ends counts) ≡ 0
  unfolding multi_refusal_with
  passes = ok

  none : changes ≡ false → counts ≡ []
  unfolding multi_changes_with multi_holds
  none e = by_cases (multi_holds fresh_multi t c flags ends counts)
      (λ same.
      let sizes = eqb (length flags) 0 && eqb (length counts) 0 in
      let nothing = and_left sizes _ (and_left (sizes && _) _ (and_left (sizes && _ && _) _ same)) in
      no_length counts (eqb-true (length counts) 0 (and_right (eqb (length flags) 0) (eqb (length counts) 0) nothing)))
      (λ new. clashes changes (rw (ok, new)) e)

  carries : numbers_of (plan_after fresh_multi r) ≡ cond changes (carried (plan_from flags parts)) fresh_plan
  carries = by_cases changes (λ e. rw e (rw e at (ap numbers_of up.plan))) (λ e. rw e (rw e at (ap numbers_of up.plan)))

  -- the counts that the plan remembers begin with those of the update
  remembered-counts : (rest : List ℕ) × (c' ≡ counts ++ rest)
  unfolding written
  remembered-counts = by_cases changes
      (λ e. (drop (length counts) c, rw (up.counts_are, e) refl))
      (λ e. (c, rw (up.counts_are, e, none e) refl))

  updated_behind : (rest : List ℕ) → Lookups flags parts (standing (numbers_of (plan_after fresh_multi r)) (counts ++ rest) u)
  updated_behind rest =
      left flags parts (few-counts flags ends counts _ passes) changes ends (counts ++ rest) counts (numbers_of (plan_after fresh_multi r)) t u
      (λ e. ap (λ (l : List ℕ). counted_parts l ends) (none e)) carries up.tables (each flags ends counts _ passes rest)

  pub updated_counts : Lookups flags parts (standing (numbers_of (plan_after fresh_multi r)) c' u)
  updated_counts = rw remembered-counts.1 (updated_behind remembered-counts.0)

  -- the same, where the lookups are lent the counts of the update alone
  pub updated_lent : Lookups flags parts (standing (numbers_of (plan_after fresh_multi r)) counts u)
  updated_lent = rw append-nil at (updated_behind [])

  -- and there are as many constraints as counts
  pub constraints-lent : (numbers_of (plan_after fresh_multi r)).constraint_count ≡ length counts
  unfolding plan_from
  constraints-lent = ap (λ (q : ConstraintColoring). q.constraint_count) carries
      ∙ by_cases changes
      (λ e. rw e (sym (length-map parts length) ∙ ap length (long flags ends counts _ passes)))
      (λ e. rw e (sym (ap length (none e))))
