-- `note`: a body that is counted is appended, and else nothing is.
use Rattle.gathering.proofs.Notes.{noted_new, noted_old}
use Rattle.gathering.proofs.Gatherer.note.Goals as goal

pub returns-then-not-stamp_body-clause-noted : goal.returns-then-not-stamp_body-clause-noted
returns-then-not-stamp_body-clause-noted c = noted_old c.stamp_body.ensures c.args.self.now.end c.args.self.now.color_bodies.now c.if-not-stamp_body.true

pub returns-clause-noted : goal.returns-clause-noted
returns-clause-noted c = noted_new c.stamp_body.ensures c.args.self.now.end c.args.self.now.color_bodies.now c.if-not-stamp_body.false
