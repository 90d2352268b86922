-- What the steps of the listing need and leave in its tables.
use Rattle.std.specs.Prelude.{ℕ, ◌≡◌, List, length}
use Rattle.gathering.specs.Gathers.{Notable, Noted, Fresh, Listed}
use Rattle.gathering.specs.declared.Gatherer.{Gatherer}

-- the bodies bs can be noted; they are noted
abbrev pub NotableIn : List ℕ → Gatherer → Type 0
NotableIn bs g = Notable bs g.body_stamps.now g.color_bodies.now g.end

abbrev pub NotedIn : ℕ → List ℕ → Gatherer → Gatherer → Type 0
NotedIn stamp bs old new = Noted stamp bs old.end old.body_stamps.now old.color_bodies.now new.body_stamps.now new.color_bodies.now new.end

-- one group's bodies can be listed; they are listed
abbrev pub FreshIn : List ℕ → ℕ → Gatherer → Type 0
FreshIn bs stamp g = Fresh bs stamp g.body_stamps.now g.color_bodies.now g.end

abbrev pub ListedIn : List ℕ → ℕ → Gatherer → Gatherer → Type 0
ListedIn bs stamp old new = Listed bs stamp new.body_stamps.now old.color_bodies.now new.color_bodies.now old.end new.end

-- the same tables, as long as before
pub record SameGatherer (old new : Gatherer) : Type 0 where
  pub body_stamps : new.body_stamps.ghost_name ≡ old.body_stamps.ghost_name
  pub color_bodies : new.color_bodies.ghost_name ≡ old.color_bodies.ghost_name
  pub scratch_offsets : new.scratch_offsets.ghost_name ≡ old.scratch_offsets.ghost_name
  pub stamps_long : length new.body_stamps.now ≡ length old.body_stamps.now
  pub bodies_long : length new.color_bodies.now ≡ length old.color_bodies.now
  pub scratch_long : length new.scratch_offsets.now ≡ length old.scratch_offsets.now
