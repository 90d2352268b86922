-- A list compared with another as that is read: they are the same exactly if they agree at each place.
use Rattle.std.proofs.Common.{ℕ, zero, suc, ◌<◌, ◌≡◌, ◌≢◌, refl, sym, Bool, true, false, ◌&&◌, List, [], ◌∷◌, map, arith, eqb, length, get_or, eq-eqb, ne_eqb}
use Rattle.lists.specs.Basics.{same}
use Rattle.lists.proofs.Laws.{and_both}

module _ (read : ℕ → ℕ) where
  all_agree : (xs ys : List ℕ) → length ys ≡ length xs → ((k : ℕ) → k < length xs → get_or xs k 0 ≡ read (get_or ys k 0)) → same xs (map read ys) ≡ true
  all_agree [] [] l h = refl
  all_agree [] (y ∷ ys) l h = absurd (omega arith)
  all_agree (x ∷ xs) [] l h = absurd (omega arith)
  all_agree (x ∷ xs) (y ∷ ys) l h = and_both (eqb x (read y)) (same xs (map read ys)) (eq-eqb x (read y) (h 0 (omega arith))) (all_agree xs ys (omega arith) (λ k q. h (suc k) (omega arith)))

  one_differs : (xs ys : List ℕ) (k : ℕ) → length ys ≡ length xs → k < length xs → get_or xs k 0 ≢ read (get_or ys k 0) → same xs (map read ys) ≡ false
  one_differs [] ys k l h ne = absurd (omega arith)
  one_differs (x ∷ xs) [] k l h ne = absurd (omega arith)
  one_differs (x ∷ xs) (y ∷ ys) zero l h ne = rw (ne_eqb x (read y) ne)
  one_differs (x ∷ xs) (y ∷ ys) (suc k) l h ne = rw (one_differs xs ys k (omega arith) (omega arith) ne) (elim (eqb x (read y)) as (λ b. (b && false) ≡ false) [ true ↦ refl | false ↦ refl ])

  -- r is what a comparison at each place answered
  pub compared : (xs ys : List ℕ) → length ys ≡ length xs → (r : Bool) → (r ≡ true → (k : ℕ) → k < length xs → get_or xs k 0 ≡ read (get_or ys k 0)) → (r ≡ false → (k : ℕ) × (k < length xs) × (get_or xs k 0 ≢ read (get_or ys k 0))) → r ≡ same xs (map read ys)
  compared xs ys l true agreed differs = sym (all_agree xs ys l (agreed refl))
  compared xs ys l false agreed differs = let w = differs refl in sym (one_differs xs ys w.0 l w.1 w.2)
