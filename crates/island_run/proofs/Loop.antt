-- In the sorted numbers each island's stand where the last island's end, and so do its endpoints and counts in what is collected in that
-- order. So the part that is read off for island i is the list of its constraints, with their endpoints and counts, and running it takes the
-- next calls of the whole.
use Rattle.std.proofs.Common.{ℕ, ◌+◌, ◌-◌, ◌*◌, ◌≤◌, ◌<◌, ◌≡◌, sym, ap, ◌∙◌, cond, List, [], ◌++◌, arith, eqb, length, take, drop, length-drop, drop_of_length-le, length-take-le, take_all, eqb-true, eq-eqb, leb, ◌&&◌, true, false, le-leb, length-take, refl}
use Rattle.std.proofs.lemmas.Bool.{eqb-false}
use Rattle.lists.specs.Basics.{join_map, range_from}
use Rattle.lists.proofs.Laws.{by_cases, no_length}
use Rattle.lists.proofs.Fills.{whole}
use Rattle.frame.specs.Frames.{end_count}
use Rattle.groups.specs.Groups.{members, flatten}
use Rattle.groups.proofs.Members.{members-few}
use Rattle.plan_questions.specs.Plans.{Tables}
use Rattle.island_numbers.specs.Numbers.{keys_of, leading, within, ends_among, counts_among}
use Rattle.island_numbers.proofs.Sorting.{leading_taken, island_part, island_end, island_inside}
use Rattle.island_numbers.proofs.Among.{ends-part, ends-next, ends_inside, counts-part, counts-next, counts_inside, ends_of_pairs, counts_of_pairs, ends_of-counted, counts_of_counted}
use Rattle.group_run.proofs.Appends.{parts_next}
use Rattle.one_island.specs.Island.{island_calls, Ready}
use Rattle.turn_table.specs.declared.Tally.{Tally}
use Rattle.turn_table.specs.Turns.{none}
use Rattle.island_run.specs.Islands.{calls_at, calls_of, Prepared}
use Rattle.island_run.proofs.Rooms.{SameLengths, room_kept}

pub islands-first : (types flags counts ends labels : List ℕ) (n : ℕ) → join_map (calls_at types flags counts ends labels) (range_from 0 (n - 0)) ≡ calls_of types flags counts ends labels n
unfolding calls_of
islands-first types flags counts ends labels n = rw (whole n)

-- where island i's numbers start, and its endpoints among those collected in the order of the numbers
abbrev pub start_of : ℕ → List ℕ → ℕ → ℕ
start_of islands labels i = length (flatten (members (keys_of islands labels)) i)

abbrev pub ends_before : List ℕ → List ℕ → List ℕ → ℕ → ℕ
ends_before counts ends ns start = length (ends_among counts ends (take start ns))

pub first-ends : (counts ends : List ℕ) → 0 ≡ length (ends_among counts ends [])
unfolding ends_among
first-ends counts ends = by_cases (eqb (length counts) 0) (λ e. rw e) (λ e. rw e)

-- island i, whose numbers stand from `start` to `end`
module _ {islands : ℕ} {flags counts ends labels numbers island_ends island_counts plan_counts : List ℕ} {t : Tables} (p : Prepared islands flags counts ends labels numbers island_ends island_counts t plan_counts)
    {i start end : ℕ} (inside : i < islands) (st : start ≡ start_of islands labels i) (en : end ≡ start + length (leading (within labels i) (drop start numbers))) where
  abbrev part : List ℕ
  part = take (end - start) (drop start numbers)

  leads : leading (within labels i) (drop start numbers) ≡ members labels i
  leads = rw (st, p.numbers_are) (island_part islands labels p.labels_are i inside)

  pub part_count : end ≡ start + length (members labels i)
  part_count = en ∙ ap (λ (l : List ℕ). start + length l) leads

  part_is : part ≡ members labels i
  part_is =
      let e : end - start ≡ length (leading (within labels i) (drop start numbers)) = omega arith in
      ap (λ (n : ℕ). take n (drop start numbers)) e ∙ leading_taken (within labels i) (drop start numbers) ∙ leads

  pub next_start : end ≡ start_of islands labels (i + 1)
  next_start = part_count ∙ ap (λ (n : ℕ). n + length (members labels i)) st ∙ island_end islands labels p.labels_are i inside

  pub part_inside : end ≤ length numbers
  part_inside = omega (arith, next_start, island_inside islands labels p.labels_are i inside, ap length p.numbers_are)

  pub part-few : end - start ≤ 8192
  part-few = omega (arith, part_count, members-few labels i, p.labels_are.few)

  long : length part ≡ end - start
  long = length-take-le (end - start) (drop start numbers) (omega (arith, part_inside, length-drop start numbers))

  fits : (length counts ≡ 0 → ⊥) → end_count counts ≤ length ends
  fits some = omega (arith, p.collectable.whole some)

  -- its counts are those from `start` to `end` of all that are collected
  module _ {cs : List ℕ} (all-counts : cs ≡ counts_among counts numbers) where
    pub counts_there : (length cs ≡ 0 → ⊥) → (start ≤ end) × (end ≤ length cs)
    counts_there some =
        let counted : length counts ≡ 0 → ⊥ = λ z. some (ap length (all-counts ∙ counts_of_pairs counts numbers z)) in
        (omega (arith, part_count), omega (arith, part_inside, ap length all-counts, counts_of_counted counts numbers counted))

    pub counts_taken : take (end - start) (drop start cs) ≡ counts_among counts part
    counts_taken = by_cases (eqb (length counts) 0)
        (λ e.
        let z = eqb-true (length counts) 0 e in
        let none : List ℕ = [] in
        let short : length cs ≤ start = omega (arith, ap length (all-counts ∙ counts_of_pairs counts numbers z)) in
        rw (drop_of_length-le cs short) (take_all (end - start) none (omega arith) ∙ sym (counts_of_pairs counts part z)))
        (λ e.
        let some = eqb-false (length counts) 0 e in
        let front : length (counts_among counts (take start numbers)) ≡ start = counts_of_counted counts (take start numbers) some ∙ length-take-le start numbers (omega (arith, part_inside, part_count)) in
        let size : length (counts_among counts part) ≡ end - start = counts_of_counted counts part some ∙ long in
        rw (all-counts)
        (ap (λ (k : ℕ). take k (drop start (counts_among counts numbers))) (sym size)
        ∙ ap (λ (k : ℕ). take (length (counts_among counts part)) (drop k (counts_among counts numbers))) (sym front)
        ∙ counts-part counts ends numbers start (end - start)))

    pub counts-few : length (take (end - start) (drop start cs)) ≤ 8192
    counts-few = by_cases (eqb (length counts) 0)
        (λ e. omega (arith, ap length counts_taken, ap length (counts_of_pairs counts part (eqb-true (length counts) 0 e))))
        (λ e. omega (arith, ap length counts_taken, counts_of_counted counts part (eqb-false (length counts) 0 e), long, part-few))

  -- and its endpoints are m from `from` on, as many as its counts say
  module _ {pc es : List ℕ} {from m : ℕ} (part_counts : pc ≡ counts_among counts part) (all-ends : es ≡ ends_among counts ends numbers) (fr : from ≡ ends_before counts ends numbers start)
      (many : m ≡ cond (eqb (length pc) 0) (2 * (end - start)) (end_count pc)) where
    ends-many : m ≡ length (ends_among counts ends part)
    ends-many = many ∙ by_cases (eqb (length counts) 0)
        (λ e.
        let z = eqb-true (length counts) 0 e in
        let n : length pc ≡ 0 = ap length (part_counts ∙ counts_of_pairs counts part z) in
        rw (eq-eqb (length pc) 0 n) (ap (λ (k : ℕ). 2 * k) (sym long) ∙ sym (ends_of_pairs counts part z ends)))
        (λ e.
        let some = eqb-false (length counts) 0 e in
        let sum : end_count pc ≡ length (ends_among counts ends part) = ap end_count part_counts ∙ sym (ends_of-counted counts part some ends (fits some)) in
        let size : length pc ≡ end - start = ap length part_counts ∙ counts_of_counted counts part some ∙ long in
        by_cases (eqb (length pc) 0)
        (λ f.
        let z = eqb-true (length pc) 0 f in
        let no : end_count pc ≡ 0 = ap end_count (no_length pc z) in
        rw f (omega (arith, size, z, sum, no)))
        (λ f. rw f sum))

    whole_part : start + (end - start) ≡ end
    whole_part = omega (arith, part_count)

    pub ends_next : from + m ≡ ends_before counts ends numbers end
    ends_next =
        omega (arith, fr, ends-many, ends-next counts ends numbers start (end - start))
        ∙ ap (λ (k : ℕ). ends_before counts ends numbers k) whole_part

    pub ends_there : from + m ≤ length es
    ends_there = omega (arith, ends_next, ap (λ (k : ℕ). ends_before counts ends numbers k) whole_part, ends_inside counts ends numbers start (end - start), ap length all-ends)

    pub ends_taken : take (from + m - from) (drop from es) ≡ ends_among counts ends part
    ends_taken =
        let size : from + m - from ≡ length (ends_among counts ends part) = omega (arith, ends-many) in
        ap (λ (l : List ℕ). take (from + m - from) (drop from l)) all-ends
        ∙ ap (λ (k : ℕ). take k (drop from (ends_among counts ends numbers))) size
        ∙ ap (λ (k : ℕ). take (length (ends_among counts ends part)) (drop k (ends_among counts ends numbers))) fr
        ∙ ends-part counts ends numbers start (end - start)

    pub ready : (u : Tables) (left : List ℕ) → SameLengths t u → length left ≡ length plan_counts → Ready flags pc (take (from + m - from) (drop from es)) (length part) u left
    ready u left s k = rw (ends_taken, part_counts, part_is) (record {
      accepted = p.accepted i inside;
      ranked = p.ranked i inside;
      tables = room_kept (length flags) (length labels) (length (members labels i)) (length island_ends) (length (ends_among counts ends (members labels i))) t u (members-few labels i)
          (omega (arith, ap (λ (l : List ℕ). length (ends_among counts ends l)) part_is, ends-next counts ends numbers start (end - start), ends_inside counts ends numbers start (end - start), p.collectable.ends_long)) s p.tables;
      plan_counts_room = omega (arith, ap (λ (l : List ℕ). length (counts_among counts l)) part_is, counts-next counts ends numbers start (end - start), counts_inside counts ends numbers start (end - start), p.collectable.counts_long, p.plan_counts_room);
    })

    pub island_next : (types : List ℕ) → join_map (calls_at types flags counts ends labels) (range_from i (islands - i))
        ≡ island_calls types flags pc (take (from + m - from) (drop from es)) i part ++ join_map (calls_at types flags counts ends labels) (range_from (i + 1) (islands - (i + 1)))
    unfolding calls_at
    island_next types = rw (ends_taken, part_counts, part_is) (parts_next (calls_at types flags counts ends labels) i islands inside)

-- ---- a part of a table, if it lies in order inside it or the table is empty

pub part_there : (cs : List ℕ) (s e : ℕ) {part : List ℕ} → ((length cs ≡ 0 → ⊥) → (s ≤ e) × (e ≤ length cs)) → part ≡ cond (leb s e && leb e (length cs)) (take (e - s) (drop s cs)) [] → part ≡ take (e - s) (drop s cs)
part_there cs s e h p = by_cases (leb s e && leb e (length cs))
    (λ b. p ∙ rw b refl)
    (λ b. by_cases (eqb (length cs) 0)
    (λ z. p ∙ rw b (sym (no_length (take (e - s) (drop s cs)) (omega (arith, length-take (e - s) (drop s cs), length-drop s cs, eqb-true (length cs) 0 z)))))
    (λ z. let i = h (eqb-false (length cs) 0 z) in let t : true ≡ false = rw (le-leb s e i.0, le-leb e (length cs) i.1) at b in absurd (cc)))

-- ---- the tally that the run begins with

abbrev tally_of : ℕ → ℕ → Tally
tally_of place takes = record { place = place; takes = takes }

zeros : (a b : ℕ) → a ≡ 0 → b ≡ 0 → tally_of a b ≡ tally_of 0 0
zeros a b p q = rw (p, q)

pub tally_none : (t : Tally) → (t.place ≡ 0) × (t.takes ≡ 0) → t ≡ none
tally_none t h = zeros t.place t.takes h.0 h.1
