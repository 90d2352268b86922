-- The turn table of a run. Turn a of the table is call a of the run, which is a schedule with rising orders; so two turns of the table are two
-- turns of that schedule, and what is proved of lanes holds of them.
use Rattle.std.proofs.Common.{ℕ, zero, suc, ◌+◌, ◌*◌, ◌<◌, ◌≡◌, refl, sym, ap, ◌∙◌, Bool, List, [], ◌∷◌, ◌++◌, arith, length, get_or, take, drop, take-append-drop, drop-cons, get_or-take, length-take-le}
use Rattle.lists.specs.Basics.{join_map}
use Rattle.frame.specs.Frames.{constraint_at, on}
use Rattle.frame.specs.Files.{second, decode}
use Rattle.schedules.specs.Runs.{Call, turn_of, turns_of, schedule, rising, run_calls}
use Rattle.schedules.specs.Lanes.{Turns, turn_entry, TableApart}
use Rattle.schedules.proofs.Accepted.{accepted}
use Rattle.schedules.proofs.Condition3.{run_all, run_turns}
use Rattle.schedules.proofs.Existence.{room_exists, rising_exists, rising_runs}
use Rattle.schedules.proofs.Lanes.{lanes_apart}

-- a call where there is none
abbrev no_call : Call
no_call = record { island = 0; group = 0; constraint = 0; refusal = 0; handed = [] }

-- three entries a turn
record Entries (table : List ℕ) (a : ℕ) (c : Call) : Type 0 where
  island : turn_entry table a 0 ≡ c.island
  group : turn_entry table a 1 ≡ c.group
  number : turn_entry table a 2 ≡ c.constraint

entries : (cs : List Call) (rest : List ℕ) (a : ℕ) → a < length cs → Entries (join_map turn_of cs ++ rest) a (get_or cs a no_call)
entries [] rest a h = absurd (omega arith)
entries (c ∷ cs) rest zero h = record { island = refl; group = refl; number = refl }
entries (c ∷ cs) rest (suc a) h =
    let e = entries cs rest a (omega arith) in
    record { island = later 0 ∙ e.island; group = later 1 ∙ e.group; number = later 2 ∙ e.number }
  where
    later : (j : ℕ) → turn_entry (join_map turn_of (c ∷ cs) ++ rest) (suc a) j ≡ turn_entry (join_map turn_of cs ++ rest) a j
    later j = let e : 3 * suc a + j ≡ suc (suc (suc (3 * a + j))) = omega arith in ap (λ (k : ℕ). get_or (join_map turn_of (c ∷ cs) ++ rest) k 0) e

-- two places of a list
split_two : {A : Type 0} (cs : List A) (a b : ℕ) (z : A) → a < b → b < length cs → cs ≡ take a (take b cs) ++ get_or cs a z ∷ drop (suc a) (take b cs) ++ get_or cs b z ∷ drop (suc b) cs
split_two {A} cs a b z h l =
    let short : a < length (take b cs) = omega (arith, length-take-le b cs (omega arith)) in
    let first : drop a (take b cs) ≡ get_or cs a z ∷ drop (suc a) (take b cs) = drop-cons (take b cs) a z short ∙ ap (λ (x : A). x ∷ drop (suc a) (take b cs)) (get_or-take b cs a z h) in
    sym (take-append-drop b cs)
    ∙ ap (λ (xs : List A). take b cs ++ xs) (drop-cons cs b z l)
    ∙ ap (λ (xs : List A). xs ++ get_or cs b z ∷ drop (suc b) cs) (sym (take-append-drop a (take b cs)) ∙ ap (λ (xs : List A). take a (take b cs) ++ xs) first)

pub table_apart : TableApart
table_apart bs rest a b e h l i g x t on_a =
    let f = decode bs in
    let ok = accepted bs e in
    let room = room_exists (second bs) f in
    let s = rising_exists bs room.0 room.1 e room.2 in
    let p = s.plans in
    let cs = run_calls (second bs) f in
    let c = get_or cs a no_call in
    let d = get_or cs b no_call in
    let same : schedule f p (rising p) ≡ cs = rising_runs bs p e s.made in
    let short : b < length cs = omega (arith, run_turns f ok, ap length (run_all f ok)) in
    let first = entries cs rest a (omega arith) in
    let last = entries cs rest b short in
    let two : Turns f p (rising p) c d = record {
      earlier = take a (take b cs);
      between = drop (suc a) (take b cs);
      later = drop (suc b) cs;
      listed = ap turns_of same ∙ run_all f ok ∙ split_two cs a b no_call h short;
    } in
    let n : ℕ → Bool = λ k. on x (constraint_at f k) in
    ap n last.number
    ∙ (lanes_apart bs p (rising p) c d e s.made two (sym first.island ∙ i ∙ last.island) (sym first.group ∙ g ∙ last.group)).bodies x t (sym (ap n first.number) ∙ on_a)
