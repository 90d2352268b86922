-- What is added to the turn table and to the takes of dynamic bodies.
use Rattle.std.specs.Prelude.{ℕ, ◌+◌, ◌*◌, ◌≤◌, ◌≡◌, Result, Ok, Err, List, [], ◌∷◌, length}
use Rattle.lists.specs.Basics.{put}
use Rattle.frame.specs.declared.refusal.Refusal.{Refusal}
use Rattle.turn_table.specs.declared.Turn.{Turn}
use Rattle.turn_table.specs.declared.Tally.{Tally}
use Rattle.turn_table.specs.declared.TurnTable.{TurnTable}

-- entries of the turn table, and takes of dynamic bodies
pub record Added : Type 0 where
  pub turns : List ℕ
  pub takes : ℕ

-- a turn as it stands in the table
abbrev pub turn_numbers : Turn → List ℕ
turn_numbers t = t.island ∷ t.group ∷ t.number ∷ []

-- what one take adds: a turn and the bodies handed as dynamic, unless it is refused
abbrev pub added_by_take : Turn → Result ℕ Refusal → Added
added_by_take t (Ok dynamic) = record { turns = turn_numbers t; takes = dynamic }
added_by_take t (Err r) = record { turns = []; takes = 0 }

-- there is room for it: places of the turn table, and takes of 4,096 bodies by 8,192 constraints at most
pub record Room (a : Added) (t : List ℕ) (s : Tally) : Type 0 where
  pub places : s.place + length a.turns ≤ length t
  pub count : s.takes + a.takes ≤ 4096 * 8192

-- it is added: from the table t and the tally s to t' and s'
pub record Appended (a : Added) (t : List ℕ) (s : Tally) (t' : List ℕ) (s' : Tally) : Type 0 where
  pub table : t' ≡ put s.place a.turns t
  pub place : s'.place ≡ s.place + length a.turns
  pub takes : s'.takes ≡ s.takes + a.takes

-- the same of a table that is lent; it stays the one that was lent
abbrev pub RoomIn : Added → TurnTable → Type 0
RoomIn a t = Room a t.turns.now t.tally

pub record AppendedTo (a : Added) (old new : TurnTable) : Type 0 where
  pub appended : Appended a old.turns.now old.tally new.turns.now new.tally
  pub kept : new.turns.ghost_name ≡ old.turns.ghost_name

-- nothing is taken yet
abbrev pub none : Tally
none = record { place = 0; takes = 0 }
