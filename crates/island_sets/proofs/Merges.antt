-- Laws of `relabel`: it never raises a number, and gives the two numbers the smaller of them.
use Rattle.std.proofs.Common.{ℕ, ◌≤◌, min, max, arith, ◌≡◌, refl, ◌⊎◌, inl, inr, ⊎_elim, Bool, true, false, eqb, eqb-true}
use Rattle.std.proofs.lemmas.Bool.{eqb-false}
use Rattle.island_sets.specs.Sets.{relabel}

-- by its two cases
pub relabel_cases : (p q r : ℕ) → ((r ≡ max p q) × (relabel p q r ≡ min p q)) ⊎ ((r ≡ max p q → ⊥) × (relabel p q r ≡ r))
relabel_cases p q r = go (eqb r (max p q)) refl
  where
    go : (t : Bool) → eqb r (max p q) ≡ t → ((r ≡ max p q) × (relabel p q r ≡ min p q)) ⊎ ((r ≡ max p q → ⊥) × (relabel p q r ≡ r))
    go true e = inl (eqb-true _ _ e, rw e)
    go false e = inr (eqb-false _ _ e, rw e)

pub relabel-le : (p q r : ℕ) → relabel p q r ≤ r
relabel-le p q r = ⊎_elim (λ w. omega arith) (λ w. omega arith) (relabel_cases p q r)

pub relabel-left : (p q : ℕ) → relabel p q p ≡ min p q
relabel-left p q = ⊎_elim (λ w. w.1) (λ w. omega (arith, w.0, w.1)) (relabel_cases p q p)

pub relabel_right : (p q : ℕ) → relabel p q q ≡ min p q
relabel_right p q = ⊎_elim (λ w. w.1) (λ w. omega (arith, w.0, w.1)) (relabel_cases p q q)
