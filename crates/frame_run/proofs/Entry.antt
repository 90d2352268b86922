-- What the entry adds to a run on tables of the frame's sizes: the first of questions 1 to 6 that gets a "no" is the run's refusal and
-- changes nothing; otherwise the tables have room, and the run's answer is that of the tables cut to size.
use Rattle.std.proofs.Common.{ℕ, ◌+◌, ◌*◌, ◌≤◌, ◌≡◌, refl, sym, ap, ◌∙◌, Result, Ok, Err, Bool, true, false, cond, List, [], ◌∷◌, ◌++◌, arith, leb, eqb, length, take, drop, length-take-le, leb-true, ne_eqb}
use Rattle.std.proofs.Math.Seq.{length_front}
use Rattle.lists.specs.Basics.{all}
use Rattle.lists.proofs.Laws.{by_cases, and_left, and_right, no_length}
use Rattle.frame.specs.Frames.{all_sound}
use Rattle.frame.specs.Questions.{Question, asked}
use Rattle.frame.specs.Files.{second, count_b, count_m, count_j, joint_ends_in, decode, file_questions}
use Rattle.frame.specs.Decodes.{all_counts, Decodable}
use Rattle.frame.specs.declared.Frame.{Frame}
use Rattle.frame.specs.declared.refusal.Refusal.{Refusal}
use Rattle.frame.specs.Refusals.{number_of}
use Rattle.frame.proofs.Answered.{numbered}
use Rattle.island.specs.Calls.{SetsAfter, labels_after, Built}
use Rattle.plan_questions.specs.Plans as plans
use Rattle.plan_questions.proofs.Rooms.{Fitted, fitted, fitted-all}
use Rattle.schedules.specs.Runs.{refused, run_of}
use Rattle.island_run.proofs.Rooms.{SameLengths}
use Rattle.frame_tables.specs.Filled.{sound_refusal}
use Rattle.run_answer.specs.declared.Report.{Report}
use Rattle.run_answer.specs.Answers.{Asks}
use Rattle.run_answer.specs.Lent.{Lent, with_counts, roomy_for, entries_for, counts_room}
use Rattle.frame.proofs.Files.{counts_by_version}
use Rattle.frame_run.specs.Calls.{roomy_in, refusal_in, Worked, WorkedCounts, Ran}
use Rattle.frame_run.specs.Sized.{Cuttable, WornCounts, RoomySized, RanSized}
use Rattle.frame_run.proofs.Runs.{all_asked, entries-few}
use Rattle.frame.proofs.Questions.{passed, zero-cond}
use Rattle.frame.proofs.Files.{file_sized, file-ends, all_counts-first, all_counts_long}

-- so many counts have all constraints
counts-wanted : (bs : List ℕ) → counts_room (second bs) (count_m bs) (count_j bs) ≡ length (all_counts bs)
counts-wanted bs = by_cases (second bs)
    (λ v. ap (λ (b : Bool). counts_room b (count_m bs) (count_j bs)) v ∙ sym (all_counts_long bs v))
    (λ v. ap (λ (b : Bool). counts_room b (count_m bs) (count_j bs)) v ∙ sym (ap length (all_counts-first bs v)))

-- ---- refusals 1 to 6

-- a refusal is the number of one of the questions
asked-most : (n : ℕ) (qs : List Question) → all (λ q. leb q.number n) qs ≡ true → asked qs ≤ n
asked-most n [] h = omega arith
asked-most n (q ∷ qs) h = by_cases q.yes
    (λ t. rw t (asked-most n qs (and_right (leb q.number n) (all (λ x. leb x.number n) qs) h)))
    (λ t. rw t (leb-true q.number n (and_left (leb q.number n) (all (λ x. leb x.number n) qs) h)))

-- the workspace keeps its lengths
pub record Worn (counted : Bool) (l m : Lent) : Type 0 where
  pub types : length m.types ≡ length l.types
  pub flags : length m.flags ≡ length l.flags
  pub pairs : length m.pairs ≡ length l.pairs
  pub island_pairs : length m.island_pairs ≡ length l.island_pairs
  pub counts : WornCounts counted l.counts m.counts
  pub island_counts : WornCounts counted l.island_counts m.island_counts
  pub enabled : length m.enabled ≡ length l.enabled
  pub numbers : length m.numbers ≡ length l.numbers
  pub plan : SameLengths l.plan m.plan
  pub plan_counts : WornCounts counted l.plan_counts m.plan_counts

-- a table of counts, cut to n places: so many as the constraints have, none where they are pairs
pub counts_worn : (counted : Bool) (m j n : ℕ) (x y : List ℕ) → n ≡ counts_room counted m j → length y ≡ length (take n x) → WornCounts counted x (y ++ drop n x)
counts_worn counted m j n x y e l = record { pairs = λ v. whole (e ∙ ap (λ (b : Bool). counts_room b m j) v); long = length_front x y n l }
  where
    whole : n ≡ 0 → y ++ drop n x ≡ x
    whole z =
        let none : y ≡ [] = no_length y (l ∙ ap (λ (m : ℕ). length (take m x)) z) in
        ap (λ (m : ℕ). y ++ drop m x) z ∙ ap (λ (r : List ℕ). r ++ x) none

-- the same of a table that is split at place n
pub counts_split : (bs : List ℕ) (v : Bool) (m j n : ℕ) (x y z : List ℕ) → v ≡ second bs → n ≡ counts_room v m j → length y ≡ length (take n x) → z ≡ drop n x → WornCounts (second bs) x (y ++ z)
counts_split bs v m j n x y z s e l d = rw (← s, d) (counts_worn v m j n x y e l)

module _ (bs : List ℕ) (l : Lent) where
  abbrev k : ℕ
  k = refusal_in bs l

  kept : (x : List ℕ) → Worked k x x
  kept x = record { kept = λ a b. refl; long = refl }

  kept_counts : (x : List ℕ) → WorkedCounts (second bs) k x x
  kept_counts x = record { pairs = λ v. refl; worked = kept x }

  module _ (r : Refusal) (e : k ≡ number_of r) (ns : number_of r ≡ 7 → ⊥) where
    abbrev n : ℕ
    n = number_of r

    nz : n ≡ 0 → ⊥
    nz = numbered r

    none_run : run_of bs (roomy_in bs l) ≡ refused n
    unfolding run_of
    none_run = rw (e, ne_eqb n 0 nz)

    labels_kept : (new old : List ℕ) → old ≡ labels_after k new old
    unfolding labels_after
    labels_kept new old = rw (e, ne_eqb n 0 nz, ne_eqb n 7 ns)

    untouched : (alone old : List ℕ) → SetsAfter k alone old old
    untouched alone old = record { beyond = refl; reset = λ z. absurd (ns (sym e ∙ z)); kept = λ a b. refl }

    islands_kept : Built (decode bs) k l.islands l.islands n 0
    islands_kept = record {
      refusal = sym e;
      count = rw (e, ne_eqb n 0 nz);
      body_labels = labels_kept _ _;
      manifold_labels = labels_kept _ _;
      joint_labels = labels_kept _ _;
      parents = untouched _ _;
      sizes = untouched _ _;
      sets = λ z. absurd (nz (sym e ∙ z));
    }

    -- nothing is changed
    pub refused_ran : Ran bs l l (Err r)
    refused_ran = record {
      refusal = sym e;
      refused = rw (e, ne_eqb n 0 nz);
      report = rw none_run;
      turns = rw none_run;
      islands = islands_kept;
      types = kept _;
      flags = kept _;
      pairs = kept _;
      island_pairs = kept _;
      counts = kept_counts _;
      island_counts = kept_counts _;
      enabled = kept _;
      numbers = kept _;
      dynamic_bodies = kept _;
      endpoints = kept _;
      body_offsets = kept _;
      body_constraints = kept _;
      scratch_offsets = kept _;
      constraint_colors = kept _;
      color_stamps = kept _;
      body_stamps = kept _;
      color_offsets = kept _;
      colored_constraints = kept _;
      color_body_offsets = kept _;
      color_bodies = kept _;
      constraint_body_positions = kept _;
      plan_counts = kept_counts _;
    }

  -- the code's refusal: that of the file, or 6
  module _ (n : ℕ) (first : n ≡ cond (eqb (asked (file_questions bs)) 0) (cond (roomy_in bs l) 0 6) (asked (file_questions bs))) where
    -- where it is 0, questions 1 to 6 are passed
    pub file_passed : n ≡ 0 → asked (file_questions bs) ≡ 0
    file_passed z = (zero-cond (asked (file_questions bs)) (cond (roomy_in bs l) 0 6) (sym first ∙ z)).0

    pub room_passed : n ≡ 0 → roomy_in bs l ≡ true
    room_passed z = (passed (roomy_in bs l) 0 5 (zero-cond (asked (file_questions bs)) (cond (roomy_in bs l) 0 6) (sym first ∙ z)).1).0

    -- otherwise it is the run's
    roomless : (n ≡ 0 → ⊥) → eqb (asked (file_questions bs)) 0 ≡ true → (roomy_in bs l ≡ false) × (n ≡ 6)
    roomless nz t = by_cases (roomy_in bs l)
        (λ s. absurd (nz (first ∙ rw (t, s))))
        (λ s. (s, first ∙ rw (t, s)))

    unreadable : eqb (asked (file_questions bs)) 0 ≡ false → n ≡ asked (file_questions bs)
    unreadable t = first ∙ rw t

    refusal_is : (n ≡ 0 → ⊥) → k ≡ n
    refusal_is nz = by_cases (eqb (asked (file_questions bs)) 0)
        (λ t. let six = roomless nz t in all_asked bs (roomy_in bs l) ∙ rw (t, six.0) (sym six.1))
        (λ t. all_asked bs (roomy_in bs l) ∙ rw t (sym (unreadable t)))

    not-seven : (n ≡ 0 → ⊥) → n ≡ 7 → ⊥
    not-seven nz s = by_cases (eqb (asked (file_questions bs)) 0)
        (λ t. omega (arith, s, (roomless nz t).1))
        (λ t. omega (arith, s, unreadable t, asked-most 5 (file_questions bs) refl))

  -- ---- questions 1 to 6 are passed

  module _ (q : asked (file_questions bs) ≡ 0) (r : roomy_in bs l ≡ true) where
    seven-left : k ≡ sound_refusal bs
    seven-left = all_asked bs (roomy_in bs l) ∙ rw (q, r)

    abbrev entries : ℕ
    entries = entries_for (second bs) (count_m bs) (count_j bs)

    abbrev counts : ℕ
    counts = counts_room (second bs) (count_m bs) (count_j bs)

    -- the lengths that question 6 wants, but for the plan's tables
    abbrev pub wanted : List (ℕ × ℕ)
    wanted =
        (count_b bs, length l.islands.parents) ∷ (count_b bs, length l.islands.sizes) ∷ (count_b bs, length l.islands.body_islands)
        ∷ (count_m bs, length l.islands.manifold_islands) ∷ (count_j bs, length l.islands.joint_islands)
        ∷ (3 * (count_m bs + count_j bs), length l.turns) ∷ (count_b bs, length l.types) ∷ (count_b bs, length l.flags)
        ∷ (entries, length l.pairs) ∷ (entries, length l.island_pairs)
        ∷ (counts, length l.counts) ∷ (counts, length l.island_counts) ∷ (counts, length l.plan_counts)
        ∷ (count_j bs, length l.enabled) ∷ (count_m bs + count_j bs, length l.numbers) ∷ []

    pub wanted_fit : Fitted wanted
    unfolding roomy_in roomy_for
    wanted_fit = (fitted-all true wanted (and_left (fitted true wanted) (plans.roomy_with (count_b bs) (count_m bs + count_j bs) entries l.plan) r)).1

    plan_fits : plans.roomy_with (count_b bs) (count_m bs + count_j bs) entries l.plan ≡ true
    unfolding roomy_in roomy_for
    plan_fits = and_right (fitted true wanted) (plans.roomy_with (count_b bs) (count_m bs + count_j bs) entries l.plan) r

    pub spacious : (ip ic ns pc : List ℕ) → length ip ≡ 2 * count_m bs + length (joint_ends_in bs) → length ic ≡ length (all_counts bs) → length ns ≡ count_m bs + count_j bs → length pc ≡ length (all_counts bs)
        → RoomySized bs l.islands l.turns ip ic ns l.plan pc
    spacious ip ic ns pc ep ec en es =
        let w = wanted_fit in
        record {
          islands = record { parents = w.0; sizes = w.1.0; body_islands = w.1.1.0; manifold_islands = w.1.1.1.0; joint_islands = w.1.1.1.1.0 };
          turns = w.1.1.1.1.1.0;
          island_pairs = ep;
          island_counts = ec;
          numbers = en;
          tables = plan_fits;
          plan_counts = omega arith;
        }

    -- the workspace is free but for its lengths
    seven-or-none : (k ≡ 0 → ⊥) → (k ≡ 7 → ⊥) → ⊥
    unfolding sound_refusal
    seven-or-none a b = by_cases (all_sound (decode bs))
        (λ t. a (seven-left ∙ rw t))
        (λ t. b (seven-left ∙ rw t))

    worked : (x y : List ℕ) → length y ≡ length x → Worked k x y
    worked x y e = record { kept = λ a b. absurd (seven-or-none a b); long = e }

    worked_counts : (x y : List ℕ) → WornCounts (second bs) x y → WorkedCounts (second bs) k x y
    worked_counts x y w = record { pairs = w.pairs; worked = worked x y w.long }

    pub sized_ran : (m : Lent) (a : Result Report Refusal) → RanSized bs l.islands l.turns m.islands m.turns a → Worn (second bs) l m → Ran bs l m a
    sized_ran m a h s = record {
      refusal = h.refusal ∙ sym seven-left;
      refused = rw seven-left h.refused;
      report = rw r h.report;
      turns = rw r h.turns;
      islands = rw seven-left h.islands;
      types = worked _ _ s.types;
      flags = worked _ _ s.flags;
      pairs = worked _ _ s.pairs;
      island_pairs = worked _ _ s.island_pairs;
      counts = worked_counts _ _ s.counts;
      island_counts = worked_counts _ _ s.island_counts;
      enabled = worked _ _ s.enabled;
      numbers = worked _ _ s.numbers;
      dynamic_bodies = worked _ _ s.plan.dynamic_bodies;
      endpoints = worked _ _ s.plan.endpoints;
      body_offsets = worked _ _ s.plan.body_offsets;
      body_constraints = worked _ _ s.plan.body_constraints;
      scratch_offsets = worked _ _ s.plan.scratch_offsets;
      constraint_colors = worked _ _ s.plan.constraint_colors;
      color_stamps = worked _ _ s.plan.color_stamps;
      body_stamps = worked _ _ s.plan.body_stamps;
      color_offsets = worked _ _ s.plan.color_offsets;
      colored_constraints = worked _ _ s.plan.colored_constraints;
      color_body_offsets = worked _ _ s.plan.color_body_offsets;
      color_bodies = worked _ _ s.plan.color_bodies;
      constraint_body_positions = worked _ _ s.plan.constraint_body_positions;
      plan_counts = worked_counts _ _ s.plan_counts;
    }

module _ (bs : List ℕ) (l : Lent) where
  pub stopped_run : (r : Refusal) → Asks bs (λ v b m j. roomy_for v b m j l) (Err r) → Ran bs l l (Err r)
  unfolding roomy_in
  stopped_run r h = refused_ran bs l r (refusal_is bs l (number_of r) h.refusal (numbered r)) (not-seven bs l (number_of r) h.refusal (numbered r))

  pub cuttable : (a : Frame) → Asks bs (λ v b m j. roomy_for v b m j l) (Ok a) → Cuttable bs l a
  unfolding roomy_in
  cuttable a h =
      let q = file_passed bs l 0 h.refusal refl in
      let r = room_passed bs l 0 h.refusal refl in
      let w = wanted_fit bs l q r in
      let v : with_counts a.version ≡ second bs = ap (λ (x : Frame). with_counts x.version) h.sizes ∙ counts_by_version (second bs) in
      let b : a.bodies ≡ count_b bs = ap (λ (x : Frame). x.bodies) h.sizes in
      let m : a.manifolds ≡ count_m bs = ap (λ (x : Frame). x.manifolds) h.sizes in
      let j : a.joints ≡ count_j bs = ap (λ (x : Frame). x.joints) h.sizes in
      let n : a.joint_ends ≡ length (joint_ends_in bs) = ap (λ (x : Frame). x.joint_ends) h.sizes in
      let few = entries-few bs q in
      let size = file_sized bs q in
      let c : counts_room (with_counts a.version) a.manifolds a.joints ≡ counts_room (second bs) (count_m bs) (count_j bs) = rw (v, m, j) refl in
      record {
        file = q;
        room = r;
        version = v;
        bodies = b;
        manifolds = m;
        joints = j;
        ends = omega (arith, m, n);
        counted = c ∙ counts-wanted bs;
        few = (omega (arith, m, size.manifolds), omega (arith, j, size.joints), omega (arith, n, (file-ends bs q).1, size.joints));
        types = omega (arith, w.1.1.1.1.1.1.0, b);
        flags = omega (arith, w.1.1.1.1.1.1.1.0, b);
        pairs = omega (arith, w.1.1.1.1.1.1.1.1.0, m, n, few);
        island_pairs = omega (arith, w.1.1.1.1.1.1.1.1.1.0, m, n, few);
        counts = omega (arith, w.1.1.1.1.1.1.1.1.1.1.0, c);
        island_counts = omega (arith, w.1.1.1.1.1.1.1.1.1.1.1.0, c);
        plan_counts = omega (arith, w.1.1.1.1.1.1.1.1.1.1.1.1.0, c);
        enabled = omega (arith, w.1.1.1.1.1.1.1.1.1.1.1.1.1.0, j);
        numbers = omega (arith, w.1.1.1.1.1.1.1.1.1.1.1.1.1.1.0, m, j);
      }

  -- the tables cut to the sizes have room
  module _ {a : Frame} (s : Cuttable bs l a) where
    abbrev counted : ℕ
    counted = counts_room (with_counts a.version) a.manifolds a.joints

    counts_cut : (x : List ℕ) → counted ≤ length x → length (take counted x) ≡ length (all_counts bs)
    counts_cut x h = length-take-le counted x h ∙ s.counted

    pub cut_roomy : RoomySized bs l.islands l.turns (take (2 * a.manifolds + a.joint_ends) l.island_pairs) (take counted l.island_counts) (take (a.manifolds + a.joints) l.numbers) l.plan (take counted l.plan_counts)
    cut_roomy =
        spacious bs l s.file s.room _ _ _ _
        (length-take-le (2 * a.manifolds + a.joint_ends) l.island_pairs s.island_pairs ∙ s.ends)
        (counts_cut l.island_counts s.island_counts)
        (omega (arith, length-take-le (a.manifolds + a.joints) l.numbers s.numbers, s.manifolds, s.joints))
        (counts_cut l.plan_counts s.plan_counts)
