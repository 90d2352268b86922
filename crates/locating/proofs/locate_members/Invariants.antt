-- `locate_members`: few bodies are searched, and of more the table has the places once they are listed. The members passed have their
-- positions.
use Rattle.locating.proofs.Locates.{Locating}
use Rattle.locating.proofs.locate_members.Given as goal

abbrev pub invariant-loop-member : goal.invariant-loop-member
invariant-loop-member l = Locating l.members.ends.count l.members.ends.bounds.now l.members.ends.endpoints.now l.members.numbers.now l.bodies l.initial.constraint_body_positions l.constraint_body_positions l.member-index
