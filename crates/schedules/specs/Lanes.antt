-- Lanes: the turns of one group are made at once, so no two of them may hold one body. Islands are solved one after another: turns of two
-- islands may hold one logged body.
use Rattle.std.specs.Prelude.{ℕ, ◌+◌, ◌*◌, ◌<◌, ◌≡◌, Bool, true, false, ◌&&◌, List, [], ◌∷◌, ◌++◌, map, eqb, get_or}
use Rattle.lists.specs.Basics.{any, join_map}
use Rattle.frame.specs.Frames.{Frame, logged, constraint_at, dynamic, conflicting, on, turn_count}
use Rattle.frame.specs.Files.{second, decode, frame_refusal}
use Rattle.schedules.specs.Runs.{Call, Plans, Orders, schedule, turn_of, turns_of, run_calls}
use Rattle.schedules.specs.Condition.{Schedule}

-- a turn holds body b: its take answered b as "dynamic"
abbrev pub holds_body : ℕ → Call → Bool
holds_body b c = any (λ h. h.dynamic && eqb b h.body) c.handed

-- two different turns of a schedule, c before d
pub record Turns (f : Frame) (p : Plans) (o : Orders) (c d : Call) : Type 0 where
  pub earlier : List Call
  pub between : List Call
  pub later : List Call
  pub listed : turns_of (schedule f p o) ≡ earlier ++ c ∷ between ++ d ∷ later

-- no body of a kind is on both constraints, n and m
abbrev pub NoneOnBoth : (ℕ → Bool) → Frame → ℕ → ℕ → Type 0
NoneOnBoth kind f n m = (b : ℕ) → kind b ≡ true → on b (constraint_at f n) ≡ true → on b (constraint_at f m) ≡ false

-- they share no body: what one holds the other does not; and no body that makes conflicts is on both constraints
pub record Apart (f : Frame) (c d : Call) : Type 0 where
  pub held : (b : ℕ) → holds_body b c ≡ true → holds_body b d ≡ false
  pub bodies : NoneOnBoth (conflicting f) f c.constraint d.constraint

-- of every accepted file and every schedule of its frame: two different turns of one group of one island are apart
abbrev pub LanesApart : Type 0
LanesApart = (bs : List ℕ) (p : Plans) (o : Orders) (c d : Call) → frame_refusal bs ≡ 0 → Schedule (second bs) (decode bs) p o → Turns (decode bs) p o c d → c.island ≡ d.island → c.group ≡ d.group → Apart (decode bs) c d

-- and two turns of different islands have no dynamic body on both constraints; a logged one may be on both (`LoggedShared`)
abbrev pub IslandsApart : Type 0
IslandsApart = (bs : List ℕ) (p : Plans) (o : Orders) (c d : Call) → frame_refusal bs ≡ 0 → Schedule (second bs) (decode bs) p o → Turns (decode bs) p o c d → (c.island ≡ d.island → ⊥) → NoneOnBoth (dynamic (decode bs)) (decode bs) c.constraint d.constraint

-- where no body is logged, no body that makes conflicts is on both
abbrev pub UnloggedApart : Type 0
UnloggedApart = (bs : List ℕ) (p : Plans) (o : Orders) (c d : Call) → frame_refusal bs ≡ 0 → Schedule (second bs) (decode bs) p o → Turns (decode bs) p o c d → (c.island ≡ d.island → ⊥) → any logged (decode bs).types ≡ false → NoneOnBoth (conflicting (decode bs)) (decode bs) c.constraint d.constraint

-- types 2, 3, 2 with the manifolds (0,1) and (2,1): body 1 is logged
abbrev pub two_on_logged : List ℕ
two_on_logged = 1 ∷ 0 ∷ 0 ∷ 0 ∷ 17 ∷ 0 ∷ 3 ∷ 0 ∷ 2 ∷ 0 ∷ 0 ∷ 2 ∷ 3 ∷ 2 ∷ 0 ∷ 0 ∷ 0 ∷ 1 ∷ 0 ∷ 2 ∷ 0 ∷ 1 ∷ []

-- it is accepted, its two turns are of the islands 0 and 1, and both hold body 1
abbrev pub LoggedShared : Type 0
LoggedShared = (frame_refusal two_on_logged ≡ 0)
    × (map (λ c. c.island) (run_calls false (decode two_on_logged)) ≡ 0 ∷ 1 ∷ [])
    × (map (holds_body 1) (run_calls false (decode two_on_logged)) ≡ true ∷ true ∷ [])

-- ---- the same of a turn table

-- entry j of turn a: its island, its group, its constraint
abbrev pub turn_entry : List ℕ → ℕ → ℕ → ℕ
turn_entry table a j = get_or table (3 * a + j) 0

-- turns a and b of a turn table: if they are of one island and group, no body that makes conflicts is on both constraints
abbrev pub ApartIn : Frame → List ℕ → ℕ → ℕ → Type 0
ApartIn f table a b = turn_entry table a 0 ≡ turn_entry table b 0 → turn_entry table a 1 ≡ turn_entry table b 1
    → NoneOnBoth (conflicting f) f (turn_entry table a 2) (turn_entry table b 2)

-- of every accepted file and every table that begins with the run's turns
abbrev pub TableApart : Type 0
TableApart = (bs rest : List ℕ) (a b : ℕ) → frame_refusal bs ≡ 0 → a < b → b < turn_count (decode bs) → ApartIn (decode bs) (join_map turn_of (run_calls (second bs) (decode bs)) ++ rest) a b
