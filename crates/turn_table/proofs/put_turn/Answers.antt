-- `put_turn`: three stores in a row are one write of a turn.
use Rattle.turn_table.proofs.Turns.{set_turn}
use Rattle.turn_table.proofs.put_turn.Goals as goal

pub returns : goal.returns
returns c = set_turn _ _ _ _ _ c.requires
