-- The endpoints of constraints that are listed by their numbers.
use Rattle.std.specs.Prelude.{ℕ, List}
use Rattle.lists.specs.Basics.{join_map}
use Rattle.parts.specs.Parts.{part_at}
use Rattle.parts.specs.declared.Members.{Members}

-- those of the members, one after another
abbrev pub ends_of : Members → List ℕ
ends_of m = join_map (part_at m.ends.bounds.now m.ends.endpoints.now) m.numbers.now
