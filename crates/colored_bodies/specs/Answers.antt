-- What the answers of the calls say: document 01's number and values for each case, and the parts of each contract.
use Rattle.std.specs.Prelude.{ℕ, ◌-◌, ◌≤◌, ◌<◌, ◌≡◌, Bool, false, Result, Ok, Err, List, [], ◌∷◌, ◌++◌, map, length, get_or, replicate}
use Rattle.lists.specs.Basics.{one, four}
use Rattle.frame.specs.declared.refusal.Refusal.{Refusal}
use Rattle.frame.specs.Refusals.{refused_by}
use Rattle.colored_bodies.specs.Bindings.{bind_refusal, bind_of, take_of}
use Rattle.colored_bodies.specs.declared.BodyBinding.{BodyBinding}
use Rattle.colored_bodies.specs.declared.Handed.{Handed}
use Rattle.colored_bodies.specs.declared.Marked.{Marked}
use Rattle.colored_bodies.specs.declared.Taken.{Taken}
use Rattle.colored_bodies.specs.declared.multi.TakenAt.{TakenAt}

-- the bodies that a take hands, none where it is refused
abbrev pub take_bodies : Result Taken Refusal → List Handed
take_bodies (Ok t) = t.first ∷ t.second ∷ []
take_bodies (Err r) = []

-- the same of a take of marks alone: for each body whether it is "dynamic"
abbrev pub marked_dynamic : Result Marked Refusal → List Bool
marked_dynamic (Ok m) = m.first_dynamic ∷ m.second_dynamic ∷ []
marked_dynamic (Err r) = []

-- the take that a take of marks becomes once the bodies at its positions are read
abbrev pub with_bodies : List ℕ → ℕ → ℕ → Result Marked Refusal → Result Taken Refusal
with_bodies bodies a b (Ok m) = Ok (record { first = record { body = get_or bodies a 0; dynamic = m.first_dynamic }; second = record { body = get_or bodies b 0; dynamic = m.second_dynamic } })
with_bodies bodies a b (Err r) = Err r

-- the bodies of a list have places and types
pub record Fillable (types indices : List ℕ) : Type 0 where
  pub room : length indices ≤ 4096
  pub typed : (i : ℕ) → i < length indices → get_or indices i 0 < length types

-- a bind answers its refusal or 0, and the binding
pub record Binds (types indices : List ℕ) (number : ℕ) (bound : BodyBinding) : Type 0 where
  pub refusal : number ≡ bind_refusal types indices
  pub binding : bound ≡ bind_of types indices

-- a take of the positions ps answers its refusal or the bodies, and leaves the binding as `take_of` says
pub record Takes (b : BodyBinding) (ps : List ℕ) (r : Result Taken Refusal) (left : BodyBinding) : Type 0 where
  pub refusal : refused_by r ≡ (take_of b ps).refusal
  pub handed : take_bodies r ≡ (take_of b ps).handed
  pub after : left ≡ (take_of b ps).after

-- a take of marks is that same take, but for the bodies' numbers
pub record Marks (b : BodyBinding) (ps : List ℕ) (r : Result Marked Refusal) (left : List ℕ) : Type 0 where
  pub refusal : refused_by r ≡ (take_of b ps).refusal
  pub dynamic : marked_dynamic r ≡ map (λ h. h.dynamic) (take_of b ps).handed
  pub marks : left ≡ (take_of b ps).after.marks

-- ---- a take of two to four positions

-- four flags, in the order asked: 1 for a body that is "dynamic"; those past the bodies are 0
abbrev pub flags_of : List Handed → List ℕ
flags_of hs = four (map (λ h. one h.dynamic) hs)

-- the flags of a take of marks, none where it is refused
abbrev pub marked_flags : Result (List Bool) Refusal → List ℕ
marked_flags (Ok dynamic) = map one dynamic
marked_flags (Err r) = four []

-- four places: the bodies handed, and past these the number 0 and "read-only"
abbrev pub four_handed : List Handed → List Handed
four_handed hs = hs ++ replicate (4 - length hs) (record { body = 0; dynamic = false })

-- four numbers, each with its flag
abbrev pub handed_each : List ℕ → List Bool → List Handed
handed_each bodies dynamic =
    record { body = get_or bodies 0 0; dynamic = get_or dynamic 0 false }
    ∷ record { body = get_or bodies 1 0; dynamic = get_or dynamic 1 false }
    ∷ record { body = get_or bodies 2 0; dynamic = get_or dynamic 2 false }
    ∷ record { body = get_or bodies 3 0; dynamic = get_or dynamic 3 false }
    ∷ []

-- how many bodies a take hands, and these in four places; none where it is refused
abbrev pub taken_count : Result TakenAt Refusal → ℕ
taken_count (Ok t) = t.count
taken_count (Err r) = 0

abbrev pub taken_handed : Result TakenAt Refusal → List Handed
taken_handed (Ok t) = t.handed
taken_handed (Err r) = four_handed []

-- the take that a take of marks becomes once the bodies at its positions are read
abbrev pub with_bodies_at : List ℕ → List ℕ → Result (List Bool) Refusal → Result TakenAt Refusal
with_bodies_at bodies ps (Ok dynamic) = Ok (record { count = length ps; handed = handed_each (four (map (λ p. get_or bodies p 0) ps)) dynamic })
with_bodies_at bodies ps (Err r) = Err r

-- the positions are at most four, and places
pub record Handable (positions : List ℕ) : Type 0 where
  pub room : length positions ≤ 4
  pub within : (i : ℕ) → i < length positions → get_or positions i 0 < 4096

-- a take of marks: its refusal or 0, the flags, and the marks that it leaves
pub record MarksAt (b : BodyBinding) (ps : List ℕ) (r : Result (List Bool) Refusal) (left : List ℕ) : Type 0 where
  pub refusal : refused_by r ≡ (take_of b ps).refusal
  pub dynamic : marked_flags r ≡ flags_of (take_of b ps).handed
  pub marks : left ≡ (take_of b ps).after.marks

-- a take of the positions ps: its refusal or 0, the bodies in the order asked, and the binding that it leaves
pub record TakesAt (b : BodyBinding) (ps : List ℕ) (r : Result TakenAt Refusal) (left : BodyBinding) : Type 0 where
  pub refusal : refused_by r ≡ (take_of b ps).refusal
  pub count : taken_count r ≡ length (take_of b ps).handed
  pub handed : taken_handed r ≡ four_handed (take_of b ps).handed
  pub after : left ≡ (take_of b ps).after
