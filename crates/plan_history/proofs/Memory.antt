-- What an accepted update leaves remembered is its input, whether it answered "changed" or "unchanged".
use Rattle.std.proofs.Common.{ℕ, ◌≡◌, sym, ap₂, Bool, true, ◌&&◌, List}
use Rattle.std.proofs.lemmas.Slice.Eq.{bytes_eq-Decides}
use Rattle.lists.specs.Basics.{same}
use Rattle.lists.proofs.Laws.{and_left, and_right, by_cases}
use Rattle.plan_questions.specs.Plans.{update_refusal}
use Rattle.plan_history.specs.Memory.{Memory, changes, remembered}

pub same-eq : (xs ys : List ℕ) → same xs ys ≡ true → xs ≡ ys
same-eq xs ys h = (bytes_eq-Decides xs ys).0 h

pub remembers : (m : Memory) (flags pairs : List ℕ) (room : Bool) → update_refusal flags pairs room ≡ 0 → remembered m flags pairs room ≡ record { flags = flags; pairs = pairs }
unfolding remembered changes
remembers m flags pairs room e = by_cases (same flags m.flags && same pairs m.pairs)
    (λ s. rw (e, s) (ap₂ (λ (x y : List ℕ). record { flags = x; pairs = y })
    (sym (same-eq flags m.flags (and_left (same flags m.flags) (same pairs m.pairs) s)))
    (sym (same-eq pairs m.pairs (and_right (same flags m.flags) (same pairs m.pairs) s)))))
    (λ s. rw (e, s))
