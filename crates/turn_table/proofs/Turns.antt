-- A turn is three stores, and a take adds it or nothing, by its refusal.
use Rattle.std.proofs.Common.{ℕ, ◌+◌, ◌≤◌, ◌≡◌, refl, sym, ap, ◌∙◌, List, [], ◌∷◌, Result, Err, arith, length, set}
use Rattle.lists.specs.Basics.{put}
use Rattle.lists.proofs.Puts.{put-none, length-put, put-put, set-put}
use Rattle.frame.specs.declared.refusal.Refusal.{Refusal}
use Rattle.turn_table.specs.declared.Tally.{Tally}
use Rattle.turn_table.specs.declared.Turn.{Turn}
use Rattle.turn_table.specs.declared.TurnTable.{TurnTable}
use Rattle.turn_table.specs.Turns.{added_by_take, Appended, AppendedTo}

-- a turn: three stores
pub set_turn : (n x y z : ℕ) (old : List ℕ) → n + 3 ≤ length old → set (set (set old n x) (n + 1) y) (n + 2) z ≡ put n (x ∷ y ∷ z ∷ []) old
set_turn n x y z old h =
    let a : set old n x ≡ put n (x ∷ []) old = set-put n x old (omega arith) in
    let la : length (put n (x ∷ []) old) ≡ length old = length-put n (x ∷ []) old (omega arith) in
    let b : set (put n (x ∷ []) old) (n + 1) y ≡ put n (x ∷ y ∷ []) old = set-put (n + 1) y (put n (x ∷ []) old) (omega arith) ∙ put-put n (x ∷ []) (y ∷ []) old (omega arith) in
    let lb : length (put n (x ∷ y ∷ []) old) ≡ length old = length-put n (x ∷ y ∷ []) old (omega arith) in
    let c : set (put n (x ∷ y ∷ []) old) (n + 2) z ≡ put n (x ∷ y ∷ z ∷ []) old = set-put (n + 2) z (put n (x ∷ y ∷ []) old) (omega arith) ∙ put-put n (x ∷ y ∷ []) (z ∷ []) old (omega arith) in
    ap (λ (l : List ℕ). set (set l (n + 1) y) (n + 2) z) a ∙ ap (λ (l : List ℕ). set l (n + 2) z) b ∙ c

-- nothing is added
pub appended_none : (t : List ℕ) (s : Tally) → Appended (record { turns = []; takes = 0 }) t s t s
appended_none t s = record { table = sym (put-none s.place t); place = omega arith; takes = omega arith }

-- so by a take that is refused
pub appended_refused : (turn : Turn) (taken : Result ℕ Refusal) (r : Refusal) (t : TurnTable) → taken ≡ Err r → AppendedTo (added_by_take turn taken) t t
appended_refused turn taken r t e = rw e (record { appended = appended_none t.turns.now t.tally; kept = refl })
