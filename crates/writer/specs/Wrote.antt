-- What a writer has written.
use Rattle.std.specs.Prelude.{ℕ, ◌+◌, ◌≤◌, ◌≡◌, List, length}
use Rattle.lists.specs.Basics.{put}
use Rattle.writer.specs.declared.Writer.{Writer}

-- the text stands in the lent bytes from the place on that was next, and the place behind it is next, among them if the first one was; they are as many bytes as before, and
-- the ones that were lent
pub record Wrote (text : List ℕ) (old new : Writer) : Type 0 where
  pub bytes : new.out.now ≡ put old.at text old.out.now
  pub next : new.at ≡ old.at + length text
  pub within : old.at ≤ length old.out.now → new.at ≤ length new.out.now
  pub long : length new.out.now ≡ length old.out.now
  pub kept : new.out.ghost_name ≡ old.out.ghost_name

-- whatever was written, the bytes are those that were lent
pub record SameBytes (old new : Writer) : Type 0 where
  pub long : length new.out.now ≡ length old.out.now
  pub kept : new.out.ghost_name ≡ old.out.ghost_name
