-- What a take adds can be seen from its answer on the marks alone: the plan's other tables and the binding's bodies make no difference.
use Rattle.std.proofs.Common.{Bor, Ok, Err, Result, ℕ, zero, suc, ◌+◌, ◌-◌, ◌≤◌, ◌<◌, ◌≡◌, refl, sym, ap, ◌∙◌, Bool, true, false, cond, List, [], ◌∷◌, ◌++◌, map, arith, add-one, ltb, eqb, length, get_or, drop, replicate, drop_of_length-le, drop-cons, take_all, ne_eqb, le-leb, lt-ltb, le-ltb, eq-eqb}
use Rattle.lists.specs.Basics.{one, count, sum_of, four, join_map, range_from}
use Rattle.lists.proofs.Laws.{by_cases}
use Rattle.lists.proofs.Fills.{whole}
use Rattle.lists.proofs.Sums.{sum_append, sum_map}
use Rattle.frame.specs.declared.refusal.Refusal.{Refusal}
use Rattle.frame.specs.Frames.{end_count}
use Rattle.groups.specs.Groups.{pair_at, Plan}
use Rattle.parts.specs.Parts.{part_at, Present}
use Rattle.parts.proofs.Bounds.{part-counted, counted_bounded}
use Rattle.constraint_coloring.specs.declared.ConstraintColoring.{ConstraintColoring}
use Rattle.plan_questions.specs.Plans.{positions_refusal, group_part}
use Rattle.constraint_coloring.specs.Calls.{Located}
use Rattle.multi_coloring.specs.Counts.{count_read, counts_read, multi_positions_refusal}
use Rattle.colored_bodies.specs.declared.BodyBinding.{BodyBinding}
use Rattle.colored_bodies.specs.declared.Marked.{Marked}
use Rattle.colored_bodies.specs.declared.BoundMarks.{BoundMarks}
use Rattle.colored_bodies.specs.Lent.{BoundBy, SameMarks}
use Rattle.frame.proofs.Answered.{numbered}
use Rattle.frame.specs.Refusals.{number_of, refused_by}
use Rattle.colored_bodies.specs.Bindings.{bind_of, handed_at, take_of, take_refusal, take_marks}
use Rattle.colored_bodies.specs.declared.Handed.{Handed}
use Rattle.colored_bodies.specs.Answers.{marked_dynamic, Marks, marked_flags, flags_of, MarksAt}
use Rattle.schedules.specs.Runs.{Call, members_in, bodies_in, lookup_refusal, lookup_of, take_rank, calls_from, turns_of, takes_of}
use Rattle.schedules.proofs.Condition3.{same_calls}
use Rattle.multi_coloring.proofs.Lookups.{read-known}
use Rattle.turn_table.specs.declared.Turn.{Turn}
use Rattle.turn_table.specs.declared.TurnTable.{TurnTable}
use Rattle.turn_table.specs.Turns.{Added, added_by_take, RoomIn, AppendedTo}
use Rattle.group_run.specs.Appends.{seen, calls_in, plan_calls, added_by, marks_only, marks_of, Countable, pair_taken, counted_taken, dynamic_taken, RankTaken, MemberTaken}
use Rattle.group_run.proofs.Appends.{parts_next}
use Rattle.frame.specs.declared.refusal.Refusal.TheVariants.{NoConstraint}

-- ---- a take of a rank, from the answers of the lookup and of the take of marks
marks_both : {x y : List ℕ} {j k : ℕ} → x ≡ y → j ≡ k → marks_only x j ≡ marks_only y k
marks_both e f = rw (e, f)

module _ (p : Plan) (m : BoundMarks) (r : ℕ) where
  abbrev b : BodyBinding
  b = marks_of m

  rank_taken : (ps : List ℕ) (t : Result ℕ Refusal) (left : BoundMarks) → lookup_refusal p r ≡ 0 → lookup_of p r ≡ ps → refused_by t ≡ (take_of b ps).refusal → dynamic_taken t ≡ count (λ h. h.dynamic) (take_of b ps).handed → left.marks.now ≡ (take_of b ps).after.marks
      → SameMarks m left → RankTaken p r m t left
  unfolding take_rank take_of
  rank_taken ps t left z e q d a s = record {
    refusal = rw (z, e) q;
    dynamic = rw (z, e) d;
    after = rw (z, e) (marks_both a s.count);
    same = s.kept;
  }

  rank_refused : (k : Refusal) → lookup_refusal p r ≡ number_of k → RankTaken p r m (Err k) m
  unfolding take_rank
  rank_refused k e =
      let some : eqb (number_of k) 0 ≡ false = ne_eqb (number_of k) 0 (numbered k) in
      record { refusal = rw (e, some); dynamic = rw (e, some); after = rw (e, some); same = refl }

-- ---- of a pair

pub same-pair_number : (m : Result Marked Refusal) → refused_by (pair_taken m) ≡ refused_by m
same-pair_number (Ok m) = refl
same-pair_number (Err r) = refl

pair-dynamic : (m : Result Marked Refusal) → dynamic_taken (pair_taken m) ≡ count (λ (d : Bool). d) (marked_dynamic m)
pair-dynamic (Ok m) = refl
pair-dynamic (Err r) = refl

pub dynamic-two : (hs : List Handed) (m : Result Marked Refusal) → marked_dynamic m ≡ map (λ h. h.dynamic) hs → dynamic_taken (pair_taken m) ≡ count (λ h. h.dynamic) hs
dynamic-two hs m e = pair-dynamic m ∙ ap (count (λ (d : Bool). d)) e ∙ sum_map one (λ (h : Handed). h.dynamic) hs

module _ (plan : ConstraintColoring) (counts co cc bo cb pos : List ℕ) (none : length counts ≡ 0) (m : BoundMarks) (r : ℕ) where
  abbrev paired : Plan
  paired = seen plan counts co cc bo cb pos

  abbrev two : BodyBinding
  two = marks_of m

  -- positions that are handed back are the two of the pair
  pub pair_found : (places : Bor (List ℕ)) → Located plan.constraint_count pos r (Ok places) → places.now ≡ pair_at pos r
  pair_found places l = l.values ∙ ap (λ (j : ℕ). cond (eqb j 0) (pair_at pos r) []) (sym l.refusal)

  pub pair_is_taken : (places : Bor (List ℕ)) → Located plan.constraint_count pos r (Ok places) → (t : Result Marked Refusal) (left : BoundMarks) → Marks two (get_or places.now 0 0 ∷ get_or places.now 1 0 ∷ []) t left.marks.now → SameMarks m left → RankTaken paired r m (pair_taken t) left
  unfolding lookup_refusal lookup_of
  pair_is_taken places l t left h s =
      let z : positions_refusal plan.constraint_count pos r ≡ 0 = sym l.refusal in
      let ps : get_or places.now 0 0 ∷ get_or places.now 1 0 ∷ [] ≡ pair_at pos r = rw (pair_found places l) in
      rank_taken paired m r (get_or places.now 0 0 ∷ get_or places.now 1 0 ∷ []) (pair_taken t) left (rw none z) (rw none (sym ps))
      (same-pair_number t ∙ h.refusal)
      (dynamic-two (take_of two (get_or places.now 0 0 ∷ get_or places.now 1 0 ∷ [])).handed t h.dynamic)
      h.marks
      s

  pub pair_refused : (f : Refusal) → Located plan.constraint_count pos r (Err f) → RankTaken paired r m (Err f) m
  unfolding lookup_refusal
  pair_refused f l =
      let z : positions_refusal plan.constraint_count pos r ≡ number_of f = sym l.refusal in
      rank_refused paired m r f (rw none z)

-- ---- of a constraint that has a count
four-flags : (xs : List ℕ) → sum_of (λ f. f) (four xs) ≡ sum_of (λ f. f) xs
unfolding four
four-flags xs = omega (arith, sum_append (λ (f : ℕ). f) xs (replicate (4 - length xs) 0), sum_none (4 - length xs))
  where
    sum_none : (n : ℕ) → sum_of (λ f. f) (replicate n 0) ≡ 0
    sum_none zero = refl
    sum_none (suc n) = omega (arith, sum_none n)

pub same-counted_number : (m : Result (List Bool) Refusal) → refused_by (counted_taken m) ≡ refused_by m
same-counted_number (Ok m) = refl
same-counted_number (Err r) = refl

counted-dynamic : (m : Result (List Bool) Refusal) → dynamic_taken (counted_taken m) ≡ sum_of (λ (f : ℕ). f) (marked_flags m)
unfolding four
counted-dynamic (Ok m) = sym (sum_map (λ (f : ℕ). f) one m)
counted-dynamic (Err r) = refl

pub dynamic-several : (hs : List Handed) (m : Result (List Bool) Refusal) → marked_flags m ≡ flags_of hs → dynamic_taken (counted_taken m) ≡ count (λ h. h.dynamic) hs
dynamic-several hs m e = counted-dynamic m ∙ ap (sum_of (λ (f : ℕ). f)) e ∙ four-flags (map (λ h. one h.dynamic) hs) ∙ sum_map (λ (f : ℕ). f) (λ (h : Handed). one h.dynamic) hs

module _ {plan : ConstraintColoring} {counts bounds pos : List ℕ} (c : Countable plan counts bounds pos) (some : length counts ≡ 0 → ⊥) (co cc bo cb : List ℕ) where
  abbrev several : Plan
  several = seen plan counts co cc bo cb pos

  counts_are : counts_read plan.constraint_count counts ≡ counts
  counts_are = ap (map count_read) (take_all plan.constraint_count counts (omega (arith, c.constraints some))) ∙ read-known counts c.known

  located_from : (r : ℕ) → lookup_refusal several r ≡ cond (ltb r (length counts)) 0 12
  unfolding lookup_refusal multi_positions_refusal
  located_from r =
      rw (
        ne_eqb (length counts) 0 some,
        counts_are,
        c.constraints some,
        le-leb (length counts) 8192 c.few,
        le-leb (length counts) (length counts) (omega arith),
        le-leb (end_count counts) (length pos) c.inside,
      )

  pub part_present : (r : ℕ) → r < length counts → Present pos bounds r
  part_present r h = counted_bounded c.bounds_of c.long pos c.inside r h

  located_at : (r : ℕ) → r < length counts → lookup_of several r ≡ part_at bounds pos r
  unfolding lookup_of
  located_at r h = rw (ne_eqb (length counts) 0 some, counts_are) (sym (part-counted c.bounds_of c.long pos r h))

  module _ (m : BoundMarks) (r : ℕ) where
    pub counted_is_taken : (ps : List ℕ) (t : Result (List Bool) Refusal) (left : BoundMarks) → r < length counts → ps ≡ part_at bounds pos r → MarksAt (marks_of m) ps t left.marks.now → SameMarks m left → RankTaken several r m (counted_taken t) left
    counted_is_taken ps t left h e k s =
        rank_taken several m r ps (counted_taken t) left (located_from r ∙ rw (lt-ltb r (length counts) h)) (located_at r h ∙ sym e)
        (same-counted_number t ∙ k.refusal)
        (dynamic-several (take_of (marks_of m) ps).handed t k.dynamic)
        k.marks
        s

    pub counted_past : length counts ≤ r → RankTaken several r m (Err NoConstraint) m
    counted_past h = rank_refused several m r NoConstraint (located_from r ∙ rw (le-ltb r (length counts) h))

-- ---- what it adds

-- a take that is refused hands no body
pub none_taken : (b : BodyBinding) (ps : List ℕ) → ((take_of b ps).refusal ≡ 0 → ⊥) → (take_of b ps).handed ≡ []
unfolding take_of
none_taken b ps ne = rw (ne_eqb (take_refusal b ps) 0 ne)

none_handed : (p : Plan) (b : BodyBinding) (r : ℕ) → ((take_rank p b r).refusal ≡ 0 → ⊥) → (take_rank p b r).handed ≡ []
unfolding take_rank
none_handed p b r ne = by_cases (eqb (lookup_refusal p r) 0) (λ e. rw e (none_taken b (lookup_of p r) (rw e at ne))) (λ e. rw e)

-- the same as its answer on the marks
pub call_added : (c : Call) (turn : Turn) (t : Result ℕ Refusal) → refused_by t ≡ c.refusal → dynamic_taken t ≡ count (λ h. h.dynamic) c.handed → ((c.refusal ≡ 0 → ⊥) → c.handed ≡ [])
    → turn.island ≡ c.island → turn.group ≡ c.group → turn.number ≡ c.constraint → added_by (c ∷ []) ≡ added_by_take turn t
unfolding turns_of takes_of
call_added c turn (Ok m) e d none i k n =
    let z : eqb c.refusal 0 ≡ true = eq-eqb c.refusal 0 (sym e) in
    let sum : count (λ h. h.dynamic) c.handed + 0 ≡ m = omega (arith, d) in
    rw (z, i, k, n, sum)
call_added c turn (Err r) e d none i k n =
    let ne : c.refusal ≡ 0 → ⊥ = λ z. numbered r (e ∙ z) in
    rw (ne_eqb c.refusal 0 ne, none ne)

-- of a rank
pub rank_added : (p : Plan) (ns : List ℕ) (i k : ℕ) (m left : BoundMarks) (r : ℕ) (t : Result ℕ Refusal) → RankTaken p r m t left
    → added_by (calls_from p ns i k (marks_of m) (r ∷ [])) ≡ added_by_take (record { island = i; group = k; number = get_or ns r 0 }) t
unfolding calls_from
rank_added p ns i k m left r t h = call_added _ (record { island = i; group = k; number = get_or ns r 0 }) t h.refusal h.dynamic (none_handed p (marks_of m) r) refl refl refl

-- ---- a member, and the members one after another

module _ (p : Plan) (ns : List ℕ) (i k : ℕ) (m left : BoundMarks) (r : ℕ) (answer : Result ℕ Refusal) (x : ℕ) (t : TurnTable) (taken : RankTaken p r m answer left) (number : x ≡ get_or ns r 0) where
  abbrev turn : Turn
  turn = record { island = i; group = k; number = x }

  adds : added_by (calls_from p ns i k (marks_of m) (r ∷ [])) ≡ added_by_take turn answer
  unfolding calls_from
  adds = call_added _ turn answer taken.refusal taken.dynamic (none_handed p (marks_of m) r) refl refl number

  pub member_room : RoomIn (added_by (calls_from p ns i k (marks_of m) (r ∷ []))) t → RoomIn (added_by_take turn answer) t
  member_room h = rw adds at h

  pub member_taken : (t' : TurnTable) → AppendedTo (added_by_take turn answer) t t' → MemberTaken p ns i k r m t left t'
  member_taken t' h = record { added = rw adds h; after = taken.after; same = taken.same }

module _ (p : Plan) (ns : List ℕ) (i k : ℕ) (b : BodyBinding) (rs : List ℕ) (m : ℕ) where
  -- the rest from place m on: the next take, and those after it from the binding that it leaves
  pub calls_next : m < length rs → calls_from p ns i k b (drop m rs) ≡ calls_from p ns i k b (get_or rs m 0 ∷ []) ++ calls_from p ns i k (take_rank p b (get_or rs m 0)).after (drop (m + 1) rs)
  unfolding calls_from
  calls_next h = rw (add-one, drop-cons rs m 0)

  pub calls_after : (c : BodyBinding) → m < length rs → c ≡ (take_rank p b (get_or rs m 0)).after → calls_from p ns i k b (drop m rs) ≡ calls_from p ns i k b (get_or rs m 0 ∷ []) ++ calls_from p ns i k c (drop (m + 1) rs)
  calls_after c h e = calls_next h ∙ ap (λ (x : BodyBinding). calls_from p ns i k b (get_or rs m 0 ∷ []) ++ calls_from p ns i k x (drop (m + 1) rs)) (sym e)

  pub calls_end : length rs ≤ m → calls_from p ns i k b (drop m rs) ≡ []
  unfolding calls_from
  calls_end h = rw (drop_of_length-le rs h)

-- ---- a group: neither the plan's other tables nor the binding's bodies make a difference

-- takes of two bindings that differ in their bodies alone
module _ (p : Plan) (b : BodyBinding) (r : ℕ) where
  abbrev bare : BodyBinding → BodyBinding
  bare c = marks_only c.marks c.count

  abbrev asked : ℕ
  asked = lookup_refusal p r

  bare-refusal : (take_rank p b r).refusal ≡ (take_rank p (bare b) r).refusal
  unfolding take_rank take_of take_refusal
  bare-refusal = by_cases (eqb asked 0) (λ e. rw e) (λ e. rw e)

  -- how many are dynamic depends on the marks alone
  same-dynamic : (ps : List ℕ) → count (λ h. h.dynamic) (map (handed_at b) ps) ≡ count (λ h. h.dynamic) (map (handed_at (bare b)) ps)
  same-dynamic [] = refl
  same-dynamic (x ∷ ps) = omega (arith, same-dynamic ps)

  bare-dynamic : count (λ h. h.dynamic) (take_rank p b r).handed ≡ count (λ h. h.dynamic) (take_rank p (bare b) r).handed
  unfolding take_rank take_of take_refusal
  bare-dynamic = by_cases (eqb asked 0)
      (λ e. rw e (by_cases (eqb (take_refusal b (lookup_of p r)) 0) (λ f. rw f (same-dynamic (lookup_of p r))) (λ f. rw f)))
      (λ e. rw e)

  bare-after : bare (take_rank p b r).after ≡ (take_rank p (bare b) r).after
  unfolding take_rank take_of take_marks
  bare-after = by_cases (eqb asked 0) (λ e. rw e) (λ e. rw e)

both-added : (x y : List ℕ) (m n : ℕ) → x ≡ y → m ≡ n → ◌≡◌ {A = Added} (record { turns = x; takes = m }) (record { turns = y; takes = n })
both-added x y m n e f = rw (e, f)

one_call : (i k n q : ℕ) (hs ks : List Handed) (cs ds : List Call) → count (λ h. h.dynamic) hs ≡ count (λ h. h.dynamic) ks → added_by cs ≡ added_by ds
    → added_by (record { island = i; group = k; constraint = n; refusal = q; handed = hs } ∷ cs) ≡ added_by (record { island = i; group = k; constraint = n; refusal = q; handed = ks } ∷ ds)
unfolding turns_of takes_of
one_call i k n q hs ks cs ds e f =
    let turns : (added_by cs).turns ≡ (added_by ds).turns = ap (λ (a : Added). a.turns) f in
    let takes : (added_by cs).takes ≡ (added_by ds).takes = ap (λ (a : Added). a.takes) f in
    both-added _ _ _ _
    (by_cases (eqb q 0) (λ t. rw t (ap (λ (l : List ℕ). i ∷ k ∷ n ∷ l) turns)) (λ t. rw t turns))
    (omega arith)

pub bodies_apart : (p : Plan) (ns : List ℕ) (i k : ℕ) (b : BodyBinding) (rs : List ℕ) → added_by (calls_from p ns i k b rs) ≡ added_by (calls_from p ns i k (marks_only b.marks b.count) rs)
unfolding calls_from
bodies_apart p ns i k b [] = refl
bodies_apart p ns i k b (r ∷ rs) =
    rw (bare-refusal p b r, ← bare-after p b r)
    (one_call i k (get_or ns r 0) _ _ _ _ _ (bare-dynamic p b r) (bodies_apart p ns i k (take_rank p b r).after rs))

pub bound_added : (p : Plan) (ns : List ℕ) (i k : ℕ) (old m : BoundMarks) (types bodies rs : List ℕ) → BoundBy types bodies old m
    → added_by (calls_from p ns i k (bind_of types bodies) rs) ≡ added_by (calls_from p ns i k (marks_of m) rs)
bound_added p ns i k old m types bodies rs bound = bodies_apart p ns i k (bind_of types bodies) rs
    ∙ ap (λ (b : BodyBinding). added_by (calls_from p ns i k b rs)) (sym (marks_both bound.marks bound.count))

-- all groups of a plan are those from 0 on
pub groups_first : (p : Plan) (types ns : List ℕ) (i : ℕ) → join_map (calls_in p types ns i) (range_from 0 (p.groups - 0)) ≡ plan_calls p types ns i
unfolding plan_calls
groups_first p types ns i = rw (whole p.groups)

-- the calls of a group, by the parts of the tables that the lookups hand back
module _ (plan : ConstraintColoring) (counts co cc bo cb pos types ns bodies members : List ℕ) (i k : ℕ) where
  pub calls_in_lem : members ≡ group_part plan.color_count co cc k → bodies ≡ group_part plan.color_count bo cb k
      → calls_in (seen plan counts co cc bo cb pos) types ns i k ≡ calls_from (seen plan counts [] [] [] [] pos) ns i k (bind_of types bodies) members
  unfolding calls_in bodies_in members_in take_rank lookup_refusal lookup_of
  calls_in_lem e f = rw (sym e, sym f) (same_calls (seen plan counts co cc bo cb pos) (seen plan counts [] [] [] [] pos) ns i k (λ b r. refl) (bind_of types bodies) members)

module _ (p : Plan) (types ns bodies members : List ℕ) (i k : ℕ) where
  -- of the groups from k on: this one, and those after it
  pub group_next : k < p.groups → members ≡ members_in p k → bodies ≡ bodies_in p k
      → join_map (calls_in p types ns i) (range_from k (p.groups - k))
      ≡ calls_from p ns i k (bind_of types bodies) members ++ join_map (calls_in p types ns i) (range_from (k + 1) (p.groups - (k + 1)))
  unfolding calls_in
  group_next h e f =
      rw (e, f) (parts_next (calls_in p types ns i) k p.groups h)
