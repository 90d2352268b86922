-- What the steps of locating need and leave: the positions of one constraint, of one group's constraints, and of all.
use Rattle.std.specs.Prelude.{ℕ, ◌≤◌, ◌<◌, ◌≡◌, true, false, List, map, ltb, length, get_or, take}
use Rattle.lists.specs.Basics.{all, mem, place, rises}
use Rattle.groups.specs.Groups.{group_count, members, group_bodies, flatten, offsets}
use Rattle.parts.specs.Parts.{part_at}
use Rattle.parts.specs.Steps.{Gapless}

-- what `locate` needs: constraints cs on bodies that exist, the members and the bodies of all groups, and a table for the places of all bodies
pub record Locatable (body_count : ℕ) (cs : List (List ℕ)) (colors : List ℕ) (color_count : ℕ) (color_offsets colored_constraints color_body_offsets color_bodies places : List ℕ) : Type 0 where
  pub few_bodies : body_count ≤ 4096
  pub few : length colors ≤ 8192
  pub below : all (λ bs. all (λ b. ltb b body_count) bs) cs ≡ true
  pub groups : color_count ≡ group_count colors
  pub starts : color_offsets ≡ offsets (members colors) color_count
  pub constraints : colored_constraints ≡ flatten (members colors) color_count
  pub body_starts : color_body_offsets ≡ offsets (group_bodies body_count cs colors) color_count
  pub bodies : take (length (flatten (group_bodies body_count cs colors) color_count)) color_bodies ≡ flatten (group_bodies body_count cs colors) color_count
  pub by_body : body_count ≤ length places

-- n constraints fill the endpoint list, with a position for each endpoint
pub record Arranged (n : ℕ) (bounds es positions : List ℕ) : Type 0 where
  pub gapless : Gapless n bounds es
  pub room : length positions ≡ length es

-- the bodies bs can be found: all stand in a rising list
pub record Findable (bs bodies : List ℕ) : Type 0 where
  pub few : length bodies ≤ 4096
  pub rising : rises bodies ≡ true
  pub there : all (λ b. mem b bodies) bs ≡ true

-- the table has the place of each body of the list
pub record PlacesListed (bodies places : List ℕ) : Type 0 where
  pub placed : (b : ℕ) → mem b bodies ≡ true → get_or places b 0 ≡ place b bodies

-- each body of the list is below the length of the table, and if they are more than 4 the table has the place of each
pub record PlacesKnown (bodies places : List ℕ) : Type 0 where
  pub below : all (λ b. ltb b (length places)) bodies ≡ true
  pub listed : 4 < length bodies → PlacesListed bodies places

-- of n constraints the members ms have the positions of their endpoints among the bodies, and the others keep theirs
pub record MembersLocated (n : ℕ) (bounds es ms bodies positions positions' : List ℕ) : Type 0 where
  pub done : (r : ℕ) → mem r ms ≡ true → part_at bounds positions' r ≡ map (λ b. place b bodies) (part_at bounds es r)
  pub kept : (r : ℕ) → r < n → mem r ms ≡ false → part_at bounds positions' r ≡ part_at bounds positions r
