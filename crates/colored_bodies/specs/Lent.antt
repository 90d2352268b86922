-- A binding's marks as they are lent, and the entries of a table at positions.
use Rattle.std.specs.Prelude.{ℕ, ◌-◌, ◌≡◌, List, ◌++◌, map, length, get_or, replicate}
use Rattle.colored_bodies.specs.declared.BodyBinding.{BodyBinding}
use Rattle.colored_bodies.specs.declared.BoundMarks.{BoundMarks}
use Rattle.colored_bodies.specs.Bindings.{bind_of}

-- the binding that has these marks, with these bodies
abbrev pub binding_with : List ℕ → BoundMarks → BodyBinding
binding_with bodies m = record { bodies = bodies; marks = m.marks.now; count = m.count }

-- its marks and its count are those of the bind of the bodies bs; the table is the one that was lent
pub record BoundBy (types bs : List ℕ) (old new : BoundMarks) : Type 0 where
  pub count : new.count ≡ (bind_of types bs).count
  pub marks : new.marks.now ≡ (bind_of types bs).marks
  pub kept : new.marks.ghost_name ≡ old.marks.ghost_name

-- a take keeps the count, and the table is the one that was lent
pub record SameMarks (old new : BoundMarks) : Type 0 where
  pub count : new.count ≡ old.count
  pub kept : new.marks.ghost_name ≡ old.marks.ghost_name

-- four places: the entries of a table at the positions, and past these `none`
abbrev pub entries_at : {T : Type 0} → T → List T → List ℕ → List T
entries_at none table ps = map (λ p. get_or table p none) ps ++ replicate (4 - length ps) none
