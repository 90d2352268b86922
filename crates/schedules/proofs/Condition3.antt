-- Condition 3, proved. What a schedule sums over its takes is a sum over constraint numbers of [touches] times the summand: each rank has
-- one color, and each touching constraint one island. From this follow "once", the turns and the takes; the rest is every group's takes.
use Rattle.schedules.specs.Runs.{turn_of, run_calls, Call, Plans, Orders, plan_at, members_in, bodies_in, take_rank, calls_from, group_calls, schedule, rising, turns_of, takes_of, run_refusal, run_of}
use Rattle.frame.specs.Frames.{turn_count, degree_sum, degree_max, Constraint, Frame, constraints, numbers, bodies, constraint_at, nothing, conflicting, on, touches, none, degree}
use Rattle.groups.specs.Groups.{Plan, group_count, members}
use Rattle.colored_bodies.specs.Bindings.{bind_of}
use Rattle.colored_bodies.specs.declared.Handed.{Handed}
use Rattle.std.proofs.Common.{ap₂, ◌≡◌, refl, sym, ap, ◌∙◌, ◌++◌, List, [], ◌∷◌, map, ℕ, zero, suc, ◌+◌, ◌*◌, ◌≤◌, ◌<◌, Bool, true, false, ◌&&◌, arith, ltb, eqb, length, get_or, eqb-true, ne_eqb, lt-ltb, le-ltb}
use mathlib.Core.List.{map-append}
use Rattle.lists.specs.Basics.{one, all, sum_of, max_of, count, join_map, range_from, range, mem}
use Rattle.lists.proofs.Sums.{collapse, sum_swap, sum_ext, sum_null, sum_zero, sum_map, sum_filter, sum_join_map, sum_get_or, filter-all}
use Rattle.lists.proofs.Laws.{or_right, by_cases, mem_self, range_high, max_in, get_or-mem, same_sum, sum_ext_in, eqb-sym, sum_one, sum_distinct, all_map}
use Rattle.lists.proofs.Ranges.{join_map_ext_in}
use Rattle.frame.specs.Files.{second, decode, frame_refusal}
use Rattle.frame.proofs.Pairs.{live_number}
use Rattle.connected_sets.specs.Islands.{island_count, label, of_island}
use Rattle.connected_sets.proofs.Theorem.{islands-few, label_below_at}
use Rattle.colored_bodies.specs.declared.BodyBinding.{BodyBinding}
use Rattle.schedules.specs.Condition.{SameNumbers, due, takes_on, Claim}
use Rattle.schedules.proofs.Accepted.{Accepted, accepted, live, touch_is_live}
use Rattle.schedules.proofs.Plans.{ends_at, colors_at, Stands, plan_stands, planned_stands, groups_few, length-colors}
use Rattle.schedules.proofs.Groups.{group_right}

-- constraint n touches a dynamic body
abbrev touching : Frame → ℕ → Bool
touching f n = touches f (constraint_at f n)

-- ---- every take is right, group by group and island by island
join_maps : {A B : Type 0} (g h : A → B) (c : ℕ → List A) (xs : List ℕ) → ((x : ℕ) → mem x xs ≡ true → map g (c x) ≡ map h (c x)) → map g (join_map c xs) ≡ map h (join_map c xs)
join_maps g h c [] e = refl
join_maps g h c (x ∷ xs) e = map-append g (c x) (join_map c xs) ∙ ap₂ ◌++◌ (e x (mem_self x xs)) (join_maps g h c xs (λ y m. e y (or_right (eqb y x) (mem y xs) m))) ∙ sym (map-append h (c x) (join_map c xs))

-- ---- sums over a schedule of what depends on the constraint alone
calls_sum : (F : ℕ → ℕ) (p : Plan) (ns : List ℕ) (i k : ℕ) (b : BodyBinding) (rs : List ℕ) → sum_of (λ c. F c.constraint) (calls_from p ns i k b rs) ≡ sum_of (λ r. F (get_or ns r 0)) rs
unfolding calls_from
calls_sum F p ns i k b [] = refl
calls_sum F p ns i k b (r ∷ rs) = omega (arith, calls_sum F p ns i k (take_rank p b r).after rs)

-- over the groups of an island: each rank has one color
groups_sum : (G : ℕ → ℕ) (cs : List ℕ) → sum_of (λ k. sum_of G (members cs k)) (range (group_count cs)) ≡ sum_of G (range (length cs))
unfolding group_count members
groups_sum G cs =
    sum_ext (λ k. sum_of G (members cs k)) (λ k. sum_of (λ r. one (eqb k (get_or cs r 0)) * G r) (range (length cs))) (range (max_of suc cs)) (λ k. sum_filter G (λ r. eqb k (get_or cs r 0)) (range (length cs)))
    ∙ sum_swap (λ k r. one (eqb k (get_or cs r 0)) * G r) (range (max_of suc cs)) (range (length cs))
    ∙ sum_ext_in (λ r. sum_of (λ k. one (eqb k (get_or cs r 0)) * G r) (range (max_of suc cs))) G (range (length cs))
    (λ r m. collapse (λ k. G r) (get_or cs r 0) 0 (max_of suc cs) (omega arith) (omega (arith, max_in suc (get_or cs r 0) cs (get_or-mem cs r (omega (arith, range_high r 0 (length cs) m))))))

-- a number past a range is not in it
beyond : (c x a n : ℕ) → a + n ≤ x → sum_of (λ m. one (eqb m x) * c) (range_from a n) ≡ 0
beyond c x a zero h = refl
beyond c x a (suc n) h = rw (ne_eqb a x (λ e. omega arith)) (omega (arith, beyond c x (suc a) n (omega arith)))

untouched : (f : Frame) (c : Constraint) → touches f c ≡ false → label f c ≡ none
unfolding label
untouched f c e = rw e

-- a constraint has an island exactly if it touches a dynamic body
pub has_island : {counted : Bool} (f : Frame) → Accepted counted f → (n : ℕ) → ltb (label f (constraint_at f n)) (island_count f) ≡ touching f n
has_island f ok n = by_cases (touching f n)
    (λ e. lt-ltb (label f (constraint_at f n)) (island_count f) (label_below_at f n e) ∙ sym e)
    (λ e. le-ltb (label f (constraint_at f n)) (island_count f) (omega (arith, untouched f (constraint_at f n) e, islands-few f, ok.few_bodies)) ∙ sym e)

-- over the islands: each touching constraint has one, any other none
islands_sum : {counted : Bool} (F : ℕ → ℕ) (f : Frame) → Accepted counted f → sum_of (λ i. sum_of F (of_island f i)) (range (island_count f)) ≡ sum_of (λ n. one (touching f n) * F n) (numbers f)
unfolding of_island
islands_sum F f ok =
    let at : ℕ → ℕ = λ n. label f (constraint_at f n) in
    sum_ext (λ i. sum_of F (of_island f i)) (λ i. sum_of (λ n. one (eqb i (at n)) * F n) (numbers f)) (range (island_count f)) (λ i. sum_filter F (λ n. eqb i (at n)) (numbers f))
    ∙ sum_swap (λ i n. one (eqb i (at n)) * F n) (range (island_count f)) (numbers f)
    ∙ sum_ext (λ n. sum_of (λ i. one (eqb i (at n)) * F n) (range (island_count f))) (λ n. one (touching f n) * F n) (numbers f)
    (λ n. by_cases (touching f n)
    (λ e. rw e (collapse (λ i. F n) (at n) 0 (island_count f) (omega arith) (omega (arith, label_below_at f n e)) ∙ omega arith))
    (λ e. rw (e, untouched f (constraint_at f n) e) (beyond (F n) none 0 (island_count f) (omega (arith, islands-few f, ok.few_bodies)) ∙ omega arith)))

module _ {counted : Bool} (f : Frame) (ok : Accepted counted f) (p : Plans) (st : (i : ℕ) → i < island_count f → Stands f i (p i)) (o : Orders)
    (ord : (i k : ℕ) → i < island_count f → k < (p i).groups → SameNumbers (o i k) (members_in (p i) k)) where
  abbrev island_of : ℕ → List Call
  island_of i = join_map (group_calls f p o i) (range (p i).groups)

  below : (i n : ℕ) → mem i (range n) ≡ true → i < n
  below i n m = omega (arith, range_high i 0 n m)

  schedule_sum : (F : ℕ → ℕ) → sum_of (λ c. F c.constraint) (schedule f p o) ≡ sum_of (λ n. one (touching f n) * F n) (numbers f)
  unfolding schedule group_calls
  schedule_sum F =
      sum_join_map (λ c. F c.constraint) island_of (range (island_count f))
      ∙ sum_ext_in (λ i. sum_of (λ c. F c.constraint) (island_of i)) (λ i. sum_of F (of_island f i)) (range (island_count f)) island
      ∙ islands_sum F f ok
    where
      island : (i : ℕ) → mem i (range (island_count f)) ≡ true → sum_of (λ c. F c.constraint) (island_of i) ≡ sum_of F (of_island f i)
      island i m =
          let l = below i (island_count f) m in
          let G : ℕ → ℕ = λ r. F (get_or (of_island f i) r 0) in
          sum_join_map (λ c. F c.constraint) (group_calls f p o i) (range (p i).groups)
          ∙ sum_ext_in (λ k. sum_of (λ c. F c.constraint) (group_calls f p o i k)) (λ k. sum_of G (members (colors_at f i) k)) (range (p i).groups)
          (λ k n. let h = below k (p i).groups n in
          calls_sum F (p i) (of_island f i) i k (bind_of f.types (bodies_in (p i) k)) (o i k) ∙ same_sum G (o i k) (members_in (p i) k) (ord i k l h) ∙ ap (sum_of G) ((st i l).members k h))
          ∙ ap (λ (n : ℕ). sum_of (λ k. sum_of G (members (colors_at f i) k)) (range n)) (st i l).groups
          ∙ groups_sum G (colors_at f i)
          ∙ ap (λ (n : ℕ). sum_of G (range n)) (length-colors f ok i l)
          ∙ sum_get_or F 0 (of_island f i)

  all_succeed : map (λ c. c.refusal) (schedule f p o) ≡ map (λ c. 0) (schedule f p o)
  unfolding schedule group_calls
  all_succeed = join_maps (λ c. c.refusal) (λ c. 0) island_of (range (island_count f))
      (λ i m. let l = below i (island_count f) m in join_maps (λ c. c.refusal) (λ c. 0) (group_calls f p o i) (range (p i).groups)
      (λ k n. let h = below k (p i).groups n in (group_right f ok i l (p i) (st i l) k h (o i k) (ord i k l h)).0))

  all_handed : map (λ c. c.handed) (schedule f p o) ≡ map (λ c. due f c.constraint) (schedule f p o)
  unfolding schedule group_calls
  all_handed = join_maps (λ c. c.handed) (λ c. due f c.constraint) island_of (range (island_count f))
      (λ i m. let l = below i (island_count f) m in join_maps (λ c. c.handed) (λ c. due f c.constraint) (group_calls f p o i) (range (p i).groups)
      (λ k n. let h = below k (p i).groups n in (group_right f ok i l (p i) (st i l) k h (o i k) (ord i k l h)).1))

  -- every take makes a turn
  pub all_turns : turns_of (schedule f p o) ≡ schedule f p o
  unfolding turns_of
  all_turns = filter-all (λ c. eqb c.refusal 0) (schedule f p o)
      (sym (all_map (λ n. eqb n 0) (λ c. c.refusal) (schedule f p o)) ∙ ap (all (λ n. eqb n 0)) all_succeed ∙ all_map (λ n. eqb n 0) (λ c. 0) (schedule f p o) ∙ all_true (schedule f p o))
    where
      all_true : (cs : List Call) → all (λ c. eqb 0 0) cs ≡ true
      all_true [] = refl
      all_true (c ∷ cs) = all_true cs

  touching-number : (n : ℕ) → touching f n ≡ true → n < length (constraints f)
  touching-number n t = live_number f n (touch_is_live f (constraint_at f n) t)

  all_once : (n : ℕ) → takes_on n (schedule f p o) ≡ one (touching f n)
  all_once n = schedule_sum (λ m. one (eqb n m))
      ∙ sum_ext (λ m. one (touching f m) * one (eqb n m)) (λ m. one (eqb m n) * one (touching f m)) (numbers f) (λ m. rw (eqb-sym n m) (omega arith))
      ∙ by_cases (touching f n)
      (λ e. collapse (λ m. one (touching f m)) n 0 (length (constraints f)) (omega arith) (omega (arith, touching-number n e)))
      (λ e. sum_ext (λ m. one (eqb m n) * one (touching f m)) (λ m. 0) (numbers f) (λ m. by_cases (eqb m n) (λ q. rw (eqb-true m n q, e) (omega arith)) (λ q. rw q (omega arith))) ∙ sum_zero (numbers f) ∙ rw e)

  count_turns : length (turns_of (schedule f p o)) ≡ turn_count f
  unfolding turn_count constraint_at
  count_turns = ap length all_turns ∙ sym (sum_one (schedule f p o)) ∙ schedule_sum (λ m. 1)
      ∙ sum_ext (λ m. one (touching f m) * 1) (λ m. one (touching f m)) (numbers f) (λ m. omega arith) ∙ sum_get_or (λ c. one (touches f c)) nothing (constraints f)

  -- ---- takes, counted by constraint and by body
  due-dynamic : (n : ℕ) → count (λ h. h.dynamic) (due f n) ≡ count (conflicting f) (ends_at f n)
  due-dynamic n = sum_map (λ h. one h.dynamic) (λ b. record { body = b; dynamic = conflicting f b }) (ends_at f n)

  -- what constraint n adds to the takes of body b
  abbrev adds : ℕ → ℕ → ℕ
  adds n b = one (touching f n && on b (constraint_at f n)) * one (conflicting f b)

  by_body : (n : ℕ) → one (touching f n) * count (conflicting f) (ends_at f n) ≡ sum_of (adds n) (bodies f)
  unfolding on
  by_body n = by_cases (touching f n)
      (λ e. let l = touch_is_live f (constraint_at f n) e in
      ap (λ (t : Bool). one t * count (conflicting f) (ends_at f n)) e ∙ once
      ∙ sum_distinct (λ b. one (conflicting f b)) (length f.types) (ends_at f n) (live f ok n l).apart (live f ok n l).inside
      ∙ sum_ext (λ b. one (mem b (ends_at f n)) * one (conflicting f b)) (adds n) (bodies f) (λ b. rw (e, l)))
      (λ e. ap (λ (t : Bool). one t * count (conflicting f) (ends_at f n)) e ∙ never ∙ sym (sum_null (adds n) (bodies f) (λ b. rw e (omega arith))))
    where
      once : 1 * count (conflicting f) (ends_at f n) ≡ count (conflicting f) (ends_at f n)
      once = omega arith

      never : 0 * count (conflicting f) (ends_at f n) ≡ 0
      never = omega arith

  by_degree : (b : ℕ) → sum_of (λ n. adds n b) (numbers f) ≡ degree f b
  unfolding degree constraint_at
  by_degree b = by_cases (conflicting f b)
      (λ e. rw e (sum_ext (λ n. one (touching f n && on b (constraint_at f n)) * 1) (λ n. one (touching f n && on b (constraint_at f n))) (numbers f) (λ n. omega arith) ∙ sum_get_or (λ c. one (touches f c && on b c)) nothing (constraints f)))
      (λ e. rw e (sum_null (λ n. one (touching f n && on b (constraint_at f n)) * 0) (numbers f) (λ n. omega arith)))

  takes_sum : sum_of (λ n. one (touching f n) * count (λ h. h.dynamic) (due f n)) (numbers f) ≡ degree_sum f
  unfolding degree_sum
  takes_sum =
      sum_ext (λ n. one (touching f n) * count (λ h. h.dynamic) (due f n)) (λ n. sum_of (adds n) (bodies f)) (numbers f) (λ n. ap (λ (k : ℕ). one (touching f n) * k) (due-dynamic n) ∙ by_body n)
      ∙ sum_swap adds (numbers f) (bodies f)
      ∙ sum_ext (λ b. sum_of (λ n. adds n b) (numbers f)) (degree f) (bodies f) by_degree

  count_takes : takes_of (schedule f p o) ≡ degree_sum f
  unfolding takes_of
  count_takes =
      let D : List Handed → ℕ = λ hs. count (λ h. h.dynamic) hs in
      sym (sum_map D (λ c. c.handed) (schedule f p o)) ∙ ap (sum_of D) all_handed ∙ sum_map D (λ c. due f c.constraint) (schedule f p o)
      ∙ schedule_sum (λ m. D (due f m)) ∙ takes_sum

dead_touches : (f : Frame) (c : Constraint) → c.live ≡ false → touches f c ≡ false
unfolding touches
dead_touches f c e = rw e

dead_on : (c : Constraint) → c.live ≡ false → (b : ℕ) → on b c ≡ false
unfolding on
dead_on c e b = rw e

-- where the tables have room, question 6 makes no difference
runs : (bs : List ℕ) → frame_refusal bs ≡ 0 → run_refusal bs true ≡ 0
unfolding frame_refusal run_refusal
runs bs e = e

-- ---- two plans that say the same make the same schedule
pub same_calls : (p q : Plan) (ns : List ℕ) (i k : ℕ) → ((b : BodyBinding) (r : ℕ) → take_rank p b r ≡ take_rank q b r) → (b : BodyBinding) (rs : List ℕ) → calls_from p ns i k b rs ≡ calls_from q ns i k b rs
unfolding calls_from
same_calls p q ns i k e b [] = refl
same_calls p q ns i k e b (r ∷ rs) =
    let t = take_rank q b r in
    let c : Call = record { island = i; group = k; constraint = get_or ns r 0; refusal = t.refusal; handed = t.handed } in
    rw (e b r) (ap (λ (cs : List Call). c ∷ cs) (same_calls p q ns i k e t.after rs))

pub same-schedule : (f : Frame) (p q : Plans) → ((i : ℕ) → i < island_count f → Stands f i (p i)) → ((i : ℕ) → i < island_count f → Stands f i (q i))
    → schedule f p (rising p) ≡ schedule f q (rising q)
unfolding schedule group_calls rising
same-schedule f p q sp sq = join_map_ext_in _ _ (range (island_count f))
    (λ i m.
    let l : i < island_count f = omega (arith, range_high i 0 (island_count f) m) in
    let s = sp i l in
    let t = sq i l in
    let g : (p i).groups ≡ (q i).groups = s.groups ∙ sym t.groups in
    ap (λ (n : ℕ). join_map (group_calls f p (rising p) i) (range n)) g
    ∙ join_map_ext_in _ _ (range (q i).groups)
    (λ k n.
    let h : k < (q i).groups = omega (arith, range_high k 0 (q i).groups n) in
    let h' : k < (p i).groups = omega (arith, g) in
    rw (s.bodies k h', s.members k h', t.bodies k h, t.members k h)
    (same_calls (p i) (q i) (of_island f i) i k (λ b r. s.takes b r ∙ sym (t.takes b r)) _ _)))

-- the members as a plan lists them are an order of takes
rising_ordered : (f : Frame) (p : Plans) (i k : ℕ) → i < island_count f → k < (p i).groups → SameNumbers (rising p i k) (members_in (p i) k)
unfolding rising
rising_ordered f p i k l h n = refl

-- ---- the run itself
module _ {counted : Bool} (f : Frame) (ok : Accepted counted f) where
  abbrev plans : Plans
  plans = plan_at counted f

  run_stands : (i : ℕ) → i < island_count f → Stands f i (plans i)
  run_stands = plan_stands counted f ok

  run_rises : (i k : ℕ) → i < island_count f → k < (plans i).groups → SameNumbers (rising plans i k) (members_in (plans i) k)
  run_rises = rising_ordered f plans

  pub run_turns : length (turns_of (run_calls counted f)) ≡ turn_count f
  run_turns = count_turns f ok plans run_stands (rising plans) run_rises

  pub run_takes : takes_of (run_calls counted f) ≡ degree_sum f
  run_takes = count_takes f ok plans run_stands (rising plans) run_rises

  pub run_all : turns_of (run_calls counted f) ≡ run_calls counted f
  run_all = all_turns f ok plans run_stands (rising plans) run_rises

  pub run_once : (n : ℕ) → takes_on n (run_calls counted f) ≡ one (touches f (constraint_at f n))
  run_once = all_once f ok plans run_stands (rising plans) run_rises

-- its report: the numbers read from the frame, and a turn for each take
pub run_report_lem : (bs : List ℕ) → frame_refusal bs ≡ 0 → run_of bs true ≡ record {
  refusal = 0;
  islands = island_count (decode bs);
  turns = turn_count (decode bs);
  takes = degree_sum (decode bs);
  degree = degree_max (decode bs);
  table = join_map turn_of (run_calls (second bs) (decode bs));
}
unfolding run_of
run_report_lem bs e =
    let f = decode bs in
    let ok = accepted bs e in
    rw (runs bs e, run_turns f ok, run_takes f ok, run_all f ok)

pub condition3 : Claim
condition3 bs p o e sch =
    let f = decode bs in
    let ok = accepted bs e in
    let st : (i : ℕ) → i < island_count f → Stands f i (p i) = λ i l. planned_stands (second bs) f ok i l (p i) (sch.plans i l) in
    let ord = sch.orders in
    record {
      succeed = all_succeed f ok p st o ord;
      handed = all_handed f ok p st o ord;
      once = all_once f ok p st o ord;
      turns = count_turns f ok p st o ord;
      takes = count_takes f ok p st o ord;
      few = λ i l. rw (st i l).groups (groups_few f ok i l);
      disabled = λ n q. (
        dead_on (constraint_at f n) q,
        dead_touches f (constraint_at f n) q,
        untouched f (constraint_at f n) (dead_touches f (constraint_at f n) q),
        all_once f ok p st o ord n ∙ ap one (dead_touches f (constraint_at f n) q),
      );
      report = rw (same-schedule f p (plan_at (second bs) f) st (run_stands f ok)) (run_report_lem bs e);
    }
