-- One constraint's positions are filled in the order of its endpoints. Places by body: the bodies of a rising list differ, so the place
-- written for one of them is not overwritten by a later one.
use Rattle.std.proofs.Common.{ℕ, ◌+◌, ◌≤◌, ◌<◌, ◌≡◌, sym, ap, ◌∙◌, Bool, true, List, ◌++◌, map, arith, eqb, ltb, length, get_or, set, take, drop, length-set, get_or-set_same, get_or-set_other, eqb-true, ltb-true}
use Rattle.std.proofs.lemmas.Bool.{eqb-false}
use Rattle.lists.specs.Basics.{all, place, rises}
use Rattle.lists.proofs.Laws.{by_cases, all_in, get_or-mem, place-lt, place_get, get_place, rises-distinct}
use Rattle.locating.specs.Locates.{PlacesListed, PlacesKnown}

entry-all : (p : ℕ → Bool) (xs : List ℕ) (i : ℕ) → all p xs ≡ true → i < length xs → p (get_or xs i 0) ≡ true
entry-all p xs i h k = all_in p (get_or xs i 0) xs (get_or-mem xs i k) h

-- ---- the first i positions are what g gives the first i endpoints
pub record Filling (g : ℕ → ℕ) (ends positions₀ positions : List ℕ) (i : ℕ) : Type 0 where
  pub inside : i ≤ length ends
  pub size : length positions ≡ length positions₀
  pub filled : take i positions ++ map g (drop i ends) ≡ map g ends

-- ---- the first i bodies have their places
pub record Placing (bodies places₀ places : List ℕ) (i : ℕ) : Type 0 where
  pub inside : i ≤ length bodies
  pub size : length places ≡ length places₀
  pub placed : (j : ℕ) → j < i → get_or places (get_or bodies j 0) 0 ≡ j

module _ {bodies places₀ places : List ℕ} {i : ℕ} (v : Placing bodies places₀ places i) where
  pub body_below : all (λ b. ltb b (length places₀)) bodies ≡ true → i < length bodies → get_or bodies i 0 < length places
  body_below p h = rw v.size (ltb-true (get_or bodies i 0) (length places₀) (entry-all (λ b. ltb b (length places₀)) bodies i p h))

  pub placing_more : rises bodies ≡ true → i < length bodies → get_or bodies i 0 < length places → Placing bodies places₀ (set places (get_or bodies i 0) i) (i + 1)
  placing_more r h low =
      record {
        inside = omega arith;
        size = length-set places (get_or bodies i 0) i ∙ v.size;
        placed = λ j k.
            by_cases (eqb j i)
            (λ e. let q : j ≡ i = eqb-true j i e in rw q (get_or-set_same places (get_or bodies i 0) i 0 low))
            (λ e. let q : j ≡ i → ⊥ = eqb-false j i e in let l : j < i = omega (arith, q) in get_or-set_other places (get_or bodies i 0) (get_or bodies j 0) i 0 (λ m. q (apart j (omega arith) m)) ∙ v.placed j l);
      }
    where
      apart : (j : ℕ) → j < length bodies → get_or bodies j 0 ≡ get_or bodies i 0 → j ≡ i
      apart j k e =
          let d = rises-distinct bodies r in
          sym (get_place bodies j d k) ∙ ap (λ (x : ℕ). place x bodies) e ∙ get_place bodies i d h

  pub placing_done : length bodies ≤ i → PlacesListed bodies places
  placing_done h =
      record { placed = λ b m. ap (λ (x : ℕ). get_or places x 0) (sym (place_get b bodies m)) ∙ v.placed (place b bodies) (omega (arith, place-lt b bodies m)) }

-- ---- of more than 4 bodies the table has the places: they were listed, or there are no more than 4
module _ {bodies places : List ℕ} (places₀ : List ℕ) (p : all (λ b. ltb b (length places₀)) bodies ≡ true) where
  pub known_listed : {listed : List ℕ} → length listed ≡ length places₀ → PlacesListed bodies listed → places ≡ listed → PlacesKnown bodies places
  known_listed e l q = rw q (record { below = rw e p; listed = λ h. l })

  pub known-few : length bodies ≤ 4 → places ≡ places₀ → PlacesKnown bodies places
  known-few h q = rw q (record { below = p; listed = λ k. absurd (omega arith) })
