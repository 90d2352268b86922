-- A list made by calls of a closure at each number below n in turn, and the positions that an answer has.
use Rattle.std.proofs.Common.{ℕ, zero, suc, ◌+◌, ◌<◌, ◌≡◌, refl, sym, ap, ◌∙◌, subst, List, [], map, arith, get_or, Bor, Result, Ok, Err}
use Rattle.std.specs.Fn.{Mut, Called}
use Rattle.std.specs.Result.{result_unwrap_or}
use Rattle.std.specs.Array.{IsFromFnResultFrom, IsFromFnResult}
use Rattle.std.specs.List.{range_with_len}
use Rattle.std.proofs.lemmas.List.FromFn.{fill_by_all}
use Rattle.frame.specs.declared.refusal.Refusal.{Refusal}
use Rattle.constraint_coloring.specs.Calls.{positions_values}

module _ {F : Type 0} (g : Mut F (ℕ × Unit {0}) ℕ) (h : ℕ → ℕ) (f : F) (each : (k y : ℕ) (q : F) → Called g f (k, tt) y q → (q ≡ f) × (y ≡ h k)) where
  made_at : (p : F) (ys : List ℕ) (i n k j : ℕ) → p ≡ f → IsFromFnResultFrom g p ys i n → k < n → i + k ≡ j → get_or ys j 0 ≡ h j
  made_at p ys i zero k j e m l s = absurd (omega arith)
  made_at p ys i (suc n) zero j e m l s =
      let here : i ≡ j = omega (arith, s) in
      ap (λ (x : ℕ). get_or ys x 0) (sym here) ∙ m.2.1 0 ∙ (each i m.1 m.0 (subst (λ (x : F). Called g x (i, tt) m.1 m.0) e m.3)).1 ∙ ap h here
  made_at p ys i (suc n) (suc k) j e m l s =
      made_at m.0 ys (i + 1) n k j (each i m.1 m.0 (subst (λ (x : F). Called g x (i, tt) m.1 m.0) e m.3)).0 m.4 (omega (arith, l)) (omega (arith, s))

  pub made_list : (ys : List ℕ) (n : ℕ) → IsFromFnResult g f ys n → ys ≡ map h (range_with_len 0 n)
  made_list ys n m = fill_by_all h ys n 0 m.long (λ k l. made_at f ys 0 n k k refl m.each l (omega arith))

-- the positions that an answer has, or none
pub found_in : (answer : Result (Bor (List ℕ)) Refusal) (none found : Bor (List ℕ)) → none.now ≡ [] → found ≡ result_unwrap_or answer none → found.now ≡ positions_values answer
found_in (Ok places) none found e h = ap (λ (b : Bor (List ℕ)). b.now) h
found_in (Err r) none found e h = ap (λ (b : Bor (List ℕ)). b.now) h ∙ e
