-- A sum over an iterator, by the definition of `specs/Basics`. What `all`, `any` and `contains` answer needs no law: they are the library's words.
use Rattle.std.proofs.Common.{ℕ, ◌≡◌, refl, sym, List}
use Rattle.std.specs.List.{sum_by}
use Rattle.std.proofs.lemmas.List.Recursion.{is_sum_by}
use Rattle.lists.specs.Basics.{sum_of}

pub sum_listed : {A : Type 0} (g : A → ℕ) (xs : List A) → sum_by g xs ≡ sum_of g xs
sum_listed g xs = sym (is_sum_by (sum_of g) g refl (λ _ _. refl) xs)
