-- What is promised of a generated file.
use Rattle.std.specs.Prelude.{◌≡◌, ℕ, ◌+◌, ◌*◌, List}
use Rattle.frame.specs.Frames.{frame_of}
use Rattle.frame.specs.Files.{decode, frame_refusal}
use Rattle.generator.specs.Draws.{types_drawn, pairs_drawn, enabled_drawn}

-- it passes questions 1 to 5 and 7, and holds the frame that the draws give
pub record Lift (seed b m j : ℕ) (bs : List ℕ) : Type 0 where
  pub passes : frame_refusal bs ≡ 0
  pub frame : decode bs ≡ frame_of (types_drawn b seed) (pairs_drawn b b 2 m seed) (pairs_drawn b (b + 2 * m) 3 j seed) (enabled_drawn (b + 2 * m) j seed)
