-- A part of a group is told by where it starts in its table and by its size; an empty part starts at 0. Positions are told in four places.
use Rattle.std.proofs.Common.{ℕ, zero, suc, subst, map, Result, Bor, ◌∷◌, length-take, ◌+◌, ◌-◌, ◌≤◌, ◌≡◌, refl, ap, ◌∙◌, Bool, true, false, ◌&&◌, cond, List, [], arith, leb, ltb, eqb, length, get_or, take, drop, length-drop, length-take-le, eqb-true, leb-true}
use Rattle.lists.specs.Basics.{four}
use Rattle.lists.proofs.Laws.{by_cases, and_left, and_right}
use Rattle.frame.specs.Frames.{counted}
use Rattle.frame.specs.declared.refusal.Refusal.{Refusal}
use Rattle.frame.specs.Refusals.{refused_by}
use Rattle.groups.specs.Groups.{counted_parts}
use Rattle.constraint_coloring.specs.declared.ConstraintColoring.{ConstraintColoring}
use Rattle.plan_questions.specs.Plans.{part, group_part}
use Rattle.constraint_coloring.specs.Calls.{positions_values}
use Rattle.multi_coloring.specs.Counts.{count_read, multi_positions_refusal, positions_in}
use Rattle.multi_coloring.specs.Calls.{MultiLocated}
use Rattle.constraint_coloring.specs.Numbers.{plan_of_numbers}
use Rattle.answer_numbers.specs.Numbers.{placed}
use Rattle.boundary.specs.Exports.{Found, MultiLocates}

empty : (xs table : List ℕ) (start : ℕ) → xs ≡ [] → take (length xs) (drop start table) ≡ xs
empty xs table start e = rw e refl

within : (s e start : ℕ) (table : List ℕ) → s ≤ e → e ≤ length table → start ≡ cond (eqb (length (take (e - s) (drop s table))) 0) 0 s
    → take (length (take (e - s) (drop s table))) (drop start table) ≡ take (e - s) (drop s table)
within s e start table rise inside from =
    let size : length (take (e - s) (drop s table)) ≡ e - s = length-take-le (e - s) (drop s table) (omega (arith, length-drop s table)) in
    by_cases (eqb (e - s) 0)
    (λ z. let none : e - s ≡ 0 = eqb-true (e - s) 0 z in rw (size, none) refl)
    (λ z. let at : start ≡ s = from ∙ ap (λ (n : ℕ). cond (eqb n 0) 0 s) size ∙ ap (λ (t : Bool). cond t 0 s) z in rw (size, at) refl)

part_at : (s e start : ℕ) (table : List ℕ) (t : Bool) → (leb s e && leb e (length table)) ≡ t → start ≡ cond (eqb (length (part s e table)) 0) 0 s
    → take (length (part s e table)) (drop start table) ≡ part s e table
part_at s e start table true h from =
    let whole : part s e table ≡ take (e - s) (drop s table) = rw h refl in
    rw whole (within s e start table (leb-true s e (and_left (leb s e) (leb e (length table)) h)) (leb-true e (length table) (and_right (leb s e) (leb e (length table)) h))
    (from ∙ ap (λ (xs : List ℕ). cond (eqb (length xs) 0) 0 s) whole))
part_at s e start table false h from = empty (part s e table) table start (rw h refl)

group_at : (n : ℕ) (offsets table : List ℕ) (k start : ℕ) (t : Bool) → (ltb k n && ltb (k + 1) (length offsets)) ≡ t
    → start ≡ cond (eqb (length (group_part n offsets table k)) 0) 0 (get_or offsets k 0)
    → take (length (group_part n offsets table k)) (drop start table) ≡ group_part n offsets table k
unfolding group_part
group_at n offsets table k start true h from =
    rw h (part_at (get_or offsets k 0) (get_or offsets (k + 1) 0) start table (leb (get_or offsets k 0) (get_or offsets (k + 1) 0) && leb (get_or offsets (k + 1) 0) (length table)) refl
    (from ∙ rw h refl))
group_at n offsets table k start false h from = empty (group_part n offsets table k) table start (rw h refl)

pub found_by : {part : List ℕ} {p : ConstraintColoring} {start : ℕ} (plan offsets table : List ℕ) (k : ℕ)
    → p ≡ plan_of_numbers plan → part ≡ group_part p.color_count offsets table k → start ≡ cond (eqb (length part) 0) 0 (get_or offsets k 0)
    → Found (get_or plan 2 0) offsets table k start (length part)
found_by {part} {p} {start} plan offsets table k e h from =
    let n = get_or plan 2 0 in
    let same : part ≡ group_part n offsets table k = h ∙ ap (λ (x : ConstraintColoring). group_part x.color_count offsets table k) e in
    record {
      part = ap (λ (xs : List ℕ). take (length xs) (drop start table)) same
          ∙ group_at n offsets table k start (ltb k n && ltb (k + 1) (length offsets)) refl (from ∙ ap (λ (xs : List ℕ). cond (eqb (length xs) 0) 0 (get_or offsets k 0)) same);
      as_long = ap length same;
      from_offset = from;
    }

-- ---- two to four positions in four places

read-most : (c : ℕ) → count_read c ≤ 4
read-most c = by_cases (counted c) (λ e. rw e (leb-true c 4 (and_right (leb 2 c) (leb c 4) e))) (λ e. rw e (omega arith))

few_read : (cs ends : List ℕ) (r : ℕ) → length (get_or (counted_parts (map count_read cs) ends) r []) ≤ 4
few_read [] ends r = omega arith
few_read (c ∷ cs) ends zero = omega (arith, read-most c, length-take (count_read c) ends)
few_read (c ∷ cs) ends (suc r) = few_read cs (drop (count_read c) ends) r

-- a lookup hands back at most four
located_few : {n : ℕ} {counts table : List ℕ} {r : ℕ} {answer : Result (Bor (List ℕ)) Refusal} → MultiLocated n counts table r answer → length (positions_values answer) ≤ 4
located_few {n} {counts} {table} {r} {answer} l =
    let handed = λ (t : Bool). cond t (positions_in n counts table r) [] in
    by_cases (eqb (multi_positions_refusal n counts table r) 0)
    (λ e. let v : positions_values answer ≡ positions_in n counts table r = l.values ∙ ap handed e in omega (arith, ap length v, few_read (take n counts) table r))
    (λ e. let v : positions_values answer ≡ [] = l.values ∙ ap handed e in omega (arith, ap length v))

four_places : (xs : List ℕ) → length xs ≤ 4 → get_or xs 0 0 ∷ get_or xs 1 0 ∷ get_or xs 2 0 ∷ get_or xs 3 0 ∷ [] ≡ four xs
unfolding four
four_places [] h = refl
four_places (a ∷ []) h = refl
four_places (a ∷ b ∷ []) h = refl
four_places (a ∷ b ∷ c ∷ []) h = refl
four_places (a ∷ b ∷ c ∷ d ∷ []) h = refl
four_places (a ∷ b ∷ c ∷ d ∷ e ∷ r) h = absurd (omega arith)

pub located_by : {p : ConstraintColoring} (plan : List ℕ) {counts table : List ℕ} {r number count : ℕ} {places : List ℕ} (answer : Result (Bor (List ℕ)) Refusal)
    → p ≡ plan_of_numbers plan → MultiLocated p.constraint_count counts table r answer → count ≡ length (positions_values answer) → (number ≡ refused_by answer) × (places ≡ placed 4 (positions_values answer))
    → MultiLocates (get_or plan 1 0) counts table r number places count
located_by plan {counts} {table} {r} answer e l many h = record {
  answer = answer;
  located = subst (λ (x : ConstraintColoring). MultiLocated x.constraint_count counts table r answer) e l;
  refusal = h.0;
  numbers = h.1 ∙ four_places (positions_values answer) (located_few l);
  counted = many;
}
