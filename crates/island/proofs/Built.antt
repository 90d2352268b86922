-- What an islands call leaves is told by its number and its count: equal ones tell the same. The number tells whether the answer is a refusal.
use Rattle.std.proofs.Common.{ℕ, ◌≡◌, refl, sym, ◌∙◌, not, Result, Ok, Err, eqb, ne_eqb}
use Rattle.std.specs.Prelude.{is_err}
use Rattle.frame.proofs.Answered.{numbered}
use Rattle.frame.specs.declared.refusal.Refusal.{Refusal}
use Rattle.frame.specs.Frames.{Frame}
use Rattle.frame.specs.Refusals.{refused_by}
use Rattle.island.specs.Calls.{IslandTables, Built}

pub built_as : {f : Frame} {k : ℕ} {t u : IslandTables} {x y n i : ℕ} → x ≡ y → n ≡ i → Built f k t u x n → Built f k t u y i
built_as e g h = rw (e, g) at h

pub refused_told : (r : Result ℕ Refusal) (k : ℕ) → refused_by r ≡ k → is_err r ≡ not (eqb k 0)
refused_told (Ok n) k e = rw (sym e) refl
refused_told (Err r) k e = rw (ne_eqb k 0 (λ z. numbered r (e ∙ z))) refl
