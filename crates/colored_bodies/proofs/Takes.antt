-- Takes from a binding of which some bodies are gone: a take of bodies that are there, at their places, hands exactly them and leaves
-- the binding with them gone. So takes that share no dynamic body all succeed, in any order.
use Rattle.std.proofs.Common.{ℕ, ◌+◌, ◌-◌, ◌≤◌, ◌<◌, ◌≡◌, refl, sym, ap, ◌∙◌, Bool, true, false, not, ◌&&◌, ◌||◌, cond, List, [], ◌∷◌, ◌++◌, map, arith, leb, ltb, eqb, length, get_or, replicate, length-append, length-set, get_or-set_same, get_or-set_other, ext_get_or, get_or-append-add, eqb-true, ltb-true, ltb-false, lt-ltb}
use mathlib.Core.List.{map-map}
use Rattle.std.proofs.Math.ListN.{length-map, length-replicate, get_or-append, get_or-eq_default}
use Rattle.std.proofs.lemmas.Bool.{eqb-false, not-true}
use Rattle.lists.specs.Basics.{all, count, one, mem, place, distinct, insert, sorted}
use Rattle.lists.proofs.Laws.{and_left, and_right, and_both, or_right, clashes, by_cases, not-true-false, bool_ext, mem_self, mem-map, map-mem, map_ext_in, get_or-map-lt, place-lt, place_get, get_place, distinct-map, all_intro, all_map, distinct-count, count-distinct, mem-count, count-any, replicate-at}
use Rattle.frame.specs.Frames.{conflicts, counted}
use Rattle.colored_bodies.specs.declared.BodyBinding.{BodyBinding}
use Rattle.colored_bodies.specs.declared.Handed.{Handed}
use Rattle.colored_bodies.specs.Bindings.{padded, bound_of, placed, free, spend, refusal_from, marks_from, ask_refusal, take_refusal, take_marks, handed_at, take_of}

-- ---- rising order keeps what a list holds
count-insert : (n x : ℕ) (xs : List ℕ) → count (eqb n) (insert x xs) ≡ one (eqb n x) + count (eqb n) xs
count-insert n x [] = refl
count-insert n x (y ∷ ys) = by_cases (leb x y) (λ e. rw e) (λ e. rw e (omega (arith, count-insert n x ys)))

count-sorted : (n : ℕ) (xs : List ℕ) → count (eqb n) (sorted xs) ≡ count (eqb n) xs
count-sorted n [] = refl
count-sorted n (x ∷ xs) = omega (arith, count-insert n x (sorted xs), count-sorted n xs)

pub mem-sorted : (n : ℕ) (xs : List ℕ) → mem n (sorted xs) ≡ mem n xs
mem-sorted n xs = bool_ext (mem n (sorted xs)) (mem n xs)
    (λ h. count-any (eqb n) xs (omega (arith, mem-count n (sorted xs) h, count-sorted n xs)))
    (λ h. count-any (eqb n) (sorted xs) (omega (arith, mem-count n xs h, count-sorted n xs)))

distinct-sorted : (xs : List ℕ) → distinct xs ≡ true → distinct (sorted xs) ≡ true
distinct-sorted xs d = count-distinct (sorted xs) (λ n. omega (arith, count-sorted n xs, distinct-count n xs d))

-- ---- places that are free and different: none refuses, and each is spent
abbrev spent : ℕ → ℕ
spent m = cond (eqb m 1) 2 m

spend-at : (ms : List ℕ) (p j : ℕ) → get_or (spend ms p) j 0 ≡ cond (eqb j p) (spent (get_or ms j 0)) (get_or ms j 0)
unfolding spend
spend-at ms p j = by_cases (eqb j p)
    (λ e. let q = eqb-true j p e in by_cases (eqb (get_or ms p 0) 1)
    (λ h. rw (e, h, q, h) (get_or-set_same ms p 2 0 (inside (eqb-true (get_or ms p 0) 1 h))))
    (λ h. rw (e, h, q, h)))
    (λ e. by_cases (eqb (get_or ms p 0) 1) (λ h. rw (e, h) (get_or-set_other ms p j 2 0 (eqb-false j p e))) (λ h. rw (e, h)))
  where
    inside : get_or ms p 0 ≡ 1 → p < length ms
    inside h = by_cases (ltb p (length ms)) (ltb-true p (length ms))
        (λ l. absurd (omega (arith, h, get_or-eq_default ms 0 (ltb-false p (length ms) l))))

length-spend : (ms : List ℕ) (p : ℕ) → length (spend ms p) ≡ length ms
unfolding spend
length-spend ms p = by_cases (eqb (get_or ms p 0) 1) (λ e. rw e (length-set ms p 2)) (λ e. rw e)

length_marks : (ms qs : List ℕ) → length (marks_from ms qs) ≡ length ms
unfolding marks_from
length_marks ms [] = refl
length_marks ms (p ∷ ps) = by_cases (free ms p) (λ e. rw e (length_marks (spend ms p) ps ∙ length-spend ms p)) (λ e. rw e)

-- a place that is free stays so when another is spent
still : (ms : List ℕ) (p : ℕ) (ps : List ℕ) → distinct (p ∷ ps) ≡ true → ((q : ℕ) → mem q (p ∷ ps) ≡ true → free ms q ≡ true) → (q : ℕ) → mem q ps ≡ true → free (spend ms p) q ≡ true
still ms p ps d h q m =
    let other : eqb q p ≡ false = not-true-false (eqb q p) (λ e. clashes (mem p ps) (ap (λ (k : ℕ). mem k ps) (sym (eqb-true q p e)) ∙ m) (not-true (mem p ps) (and_left (not (mem p ps)) (distinct ps) d))) in
    ap (λ (v : ℕ). leb v 1) (spend-at ms p q ∙ ap (λ (t : Bool). cond t (spent (get_or ms q 0)) (get_or ms q 0)) other) ∙ h q (or_right (eqb q p) (mem q ps) m)

no_refusal : (k : ℕ) (ms qs : List ℕ) → distinct qs ≡ true → ((q : ℕ) → mem q qs ≡ true → free ms q ≡ true) → refusal_from k ms qs ≡ 0
unfolding refusal_from
no_refusal k ms [] d h = refl
no_refusal k ms (p ∷ ps) d h = rw (h p (mem_self p ps)) (no_refusal 11 (spend ms p) ps (and_right (not (mem p ps)) (distinct ps) d) (still ms p ps d h))

marks_at : (ms qs : List ℕ) (j : ℕ) → distinct qs ≡ true → ((q : ℕ) → mem q qs ≡ true → free ms q ≡ true) → get_or (marks_from ms qs) j 0 ≡ cond (mem j qs) (spent (get_or ms j 0)) (get_or ms j 0)
unfolding marks_from
marks_at ms [] j d h = refl
marks_at ms (p ∷ ps) j d h =
    rw (h p (mem_self p ps), marks_at (spend ms p) ps j (and_right (not (mem p ps)) (distinct ps) d) (still ms p ps d h), spend-at ms p j)
    (by_cases (eqb j p)
    (λ e. rw (e, ap (λ (k : ℕ). mem k ps) (eqb-true j p e) ∙ not-true (mem p ps) (and_left (not (mem p ps)) (distinct ps) d)))
    (λ e. rw e))

-- ---- a binding of the bodies bs, of which some are gone
abbrev pub typed : List ℕ → ℕ → Bool
typed types b = conflicts (get_or types b 0)

abbrev mark_if : List ℕ → (ℕ → Bool) → ℕ → ℕ
mark_if types gone b = cond (typed types b) (cond (gone b) 2 1) 0

pub left_of : List ℕ → (ℕ → Bool) → List ℕ → BodyBinding
left_of types gone bs = record { bodies = padded bs; marks = padded (map (mark_if types gone) bs); count = length bs }

-- at first none is gone
pub left-first : (types bs : List ℕ) → bound_of types bs ≡ left_of types (λ b. false) bs
unfolding bound_of left_of
left-first types bs = refl

abbrev pub due_of : List ℕ → ℕ → Handed
due_of types b = record { body = b; dynamic = typed types b }

length-padded : (xs : List ℕ) → length xs ≤ 4096 → length (padded xs) ≡ 4096
unfolding padded
length-padded xs h = omega (arith, length-append xs (replicate (4096 - length xs) 0), length-replicate {A = ℕ} (4096 - length xs) 0)

padded_in : (xs : List ℕ) (j : ℕ) → j < length xs → get_or (padded xs) j 0 ≡ get_or xs j 0
unfolding padded
padded_in xs j h = get_or-append xs (replicate (4096 - length xs) 0) 0 j h

padded_out : (xs : List ℕ) (j : ℕ) → length xs ≤ j → get_or (padded xs) j 0 ≡ 0
unfolding padded
padded_out xs j h =
    let e : j ≡ length xs + (j - length xs) = omega arith in
    ap (λ (k : ℕ). get_or (xs ++ replicate (4096 - length xs) 0) k 0) e ∙ get_or-append-add xs (replicate (4096 - length xs) 0) (j - length xs) 0 ∙ replicate-at (4096 - length xs) (j - length xs) 0

-- ---- one take, of the bodies es, two to four, that are listed and not gone
module _ (types : List ℕ) (gone : ℕ → Bool) (bs es : List ℕ) (within : (b : ℕ) → mem b es ≡ true → mem b bs ≡ true) (apart : distinct bs ≡ true) (eapart : distinct es ≡ true) (few : length bs ≤ 4096)
    (fresh : (b : ℕ) → mem b es ≡ true → typed types b ≡ true → gone b ≡ false) (sized : counted (length es) ≡ true) where
  abbrev ps : List ℕ
  ps = map (λ b. place b bs) es

  abbrev ms : List ℕ
  ms = padded (map (mark_if types gone) bs)

  mark_in : (j : ℕ) → j < length bs → get_or ms j 0 ≡ mark_if types gone (get_or bs j 0)
  mark_in j h = padded_in (map (mark_if types gone) bs) j (omega (arith, length-map bs (mark_if types gone))) ∙ get_or-map-lt (mark_if types gone) bs j 0 0 h

  mark_of : (b : ℕ) → mem b es ≡ true → get_or ms (place b bs) 0 ≡ mark_if types gone b
  mark_of b m = mark_in (place b bs) (place-lt b bs (within b m)) ∙ ap (mark_if types gone) (place_get b bs (within b m))

  there : (c g : Bool) → (c ≡ true → g ≡ false) → (leb (cond c (cond g 2 1) 0) 1 ≡ true) × (eqb (cond c (cond g 2 1) 0) 1 ≡ c)
  there true true h = clashes true refl (h refl)
  there true false h = (refl, refl)
  there false g h = (refl, refl)

  ps_apart : distinct ps ≡ true
  ps_apart = distinct-map (λ b. place b bs) es (λ x y m n e. sym (place_get x bs (within x m)) ∙ ap (λ (k : ℕ). get_or bs k 0) e ∙ place_get y bs (within y n)) eapart

  ps-placed : placed (length bs) ps ≡ true
  unfolding placed
  ps-placed = and_both (distinct ps) (all (λ p. ltb p (length bs) && ltb p 4096) ps) ps_apart
      (all_map (λ p. ltb p (length bs) && ltb p 4096) (λ b. place b bs) es ∙ all_intro (λ b. ltb (place b bs) (length bs) && ltb (place b bs) 4096) es
      (λ b m. let l = place-lt b bs (within b m) in and_both (ltb (place b bs) (length bs)) (ltb (place b bs) 4096) (lt-ltb (place b bs) (length bs) l) (lt-ltb (place b bs) 4096 (omega arith))))

  all-free : (q : ℕ) → mem q (sorted ps) ≡ true → free ms q ≡ true
  all-free q m =
      let o = map-mem (λ b. place b bs) q es (sym (mem-sorted q ps) ∙ m) in
      ap (λ (k : ℕ). leb (get_or ms k 0) 1) (sym o.2) ∙ ap (λ (v : ℕ). leb v 1) (mark_of o.0 o.1) ∙ (there (typed types o.0) (gone o.0) (fresh o.0 o.1)).0

  abbrev now : BodyBinding
  now = record { bodies = padded bs; marks = ms; count = length bs }

  -- questions 5 and 9 pass
  asks_none : ask_refusal (length bs) ps ≡ 0
  asks_none = rw (length-map es (λ b. place b bs), sized, ps-placed)

  refuses_none : take_refusal now ps ≡ 0
  unfolding take_refusal
  refuses_none = rw asks_none (no_refusal 10 ms (sorted ps) (distinct-sorted ps ps_apart) all-free)

  hands : map (handed_at now) ps ≡ map (due_of types) es
  hands = map-map (handed_at now) (λ b. place b bs) es ∙ map_ext_in (λ b. handed_at now (place b bs)) (due_of types) es
      (λ b m. ap (λ (n : ℕ). record { body = n; dynamic = eqb (get_or ms (place b bs) 0) 1 }) (padded_in bs (place b bs) (place-lt b bs (within b m)) ∙ place_get b bs (within b m))
      ∙ ap (λ (t : Bool). record { body = b; dynamic = t }) (ap (λ (v : ℕ). eqb v 1) (mark_of b m) ∙ (there (typed types b) (gone b) (fresh b m)).1))

  abbrev gone' : ℕ → Bool
  gone' b = mem b es || gone b

  -- the place of a body is asked for exactly if the body is
  asked-at : (j : ℕ) → j < length bs → mem j (sorted ps) ≡ mem (get_or bs j 0) es
  asked-at j h = mem-sorted j ps ∙ bool_ext (mem j ps) (mem (get_or bs j 0) es)
      (λ m. let o = map-mem (λ b. place b bs) j es m in ap (λ (k : ℕ). mem k es) (ap (λ (k : ℕ). get_or bs k 0) (sym o.2) ∙ place_get o.0 bs (within o.0 o.1)) ∙ o.1)
      (λ m. ap (λ (k : ℕ). mem k ps) (sym (get_place bs j apart h)) ∙ mem-map (λ b. place b bs) (get_or bs j 0) es m)

  becomes : (b : ℕ) → cond (mem b es) (spent (mark_if types gone b)) (mark_if types gone b) ≡ mark_if types gone' b
  becomes b = by_cases (mem b es)
      (λ m. by_cases (typed types b) (λ t. rw (m, t, fresh b m t)) (λ t. rw (m, t)))
      (λ m. rw m)

  leaves : take_marks now ps ≡ padded (map (mark_if types gone') bs)
  unfolding take_marks
  leaves = rw asks_none (ext_get_or 0 (marks_from ms (sorted ps)) (padded (map (mark_if types gone') bs))
      (length_marks ms (sorted ps) ∙ length-padded (map (mark_if types gone) bs) (omega (arith, length-map bs (mark_if types gone))) ∙ sym (length-padded (map (mark_if types gone') bs) (omega (arith, length-map bs (mark_if types gone')))))
      (λ j l. marks_at ms (sorted ps) j (distinct-sorted ps ps_apart) all-free ∙ each j))
    where
      each : (j : ℕ) → cond (mem j (sorted ps)) (spent (get_or ms j 0)) (get_or ms j 0) ≡ get_or (padded (map (mark_if types gone') bs)) j 0
      each j = by_cases (ltb j (length bs))
          (λ l. let h = ltb-true j (length bs) l in
          rw (asked-at j h, mark_in j h) (becomes (get_or bs j 0)
          ∙ sym (padded_in (map (mark_if types gone') bs) j (omega (arith, length-map bs (mark_if types gone'))) ∙ get_or-map-lt (mark_if types gone') bs j 0 0 h)))
          (λ l. let h = ltb-false j (length bs) l in
          let z : get_or ms j 0 ≡ 0 = padded_out (map (mark_if types gone) bs) j (omega (arith, length-map bs (mark_if types gone))) in
          rw z (by_cases (mem j (sorted ps)) (λ m. rw m) (λ m. rw m) ∙ sym (padded_out (map (mark_if types gone') bs) j (omega (arith, length-map bs (mark_if types gone'))))))

  pub take_left : take_of (left_of types gone bs) ps ≡ record { refusal = 0; handed = map (due_of types) es; after = left_of types gone' bs }
  unfolding take_of left_of
  take_left = rw (refuses_none, hands, leaves)
