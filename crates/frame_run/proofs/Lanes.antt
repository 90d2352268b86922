-- Lanes of the code: by its contract an accepted call leaves the run's turns from place 0 of the turn table on, as many as it reports; so two
-- turns of the table are apart as two turns of the run are.
use Rattle.std.proofs.Common.{ℕ, ◌≡◌, sym, ap, ◌∙◌, subst, List, arith}
use Rattle.lists.specs.Basics.{over, join_map}
use Rattle.frame.specs.Frames.{turn_count}
use Rattle.frame.specs.Files.{second, decode}
use Rattle.schedules.specs.Runs.{turn_of, run_calls}
use Rattle.schedules.specs.Lanes.{ApartIn}
use Rattle.schedules.proofs.Condition3.{run_report_lem}
use Rattle.schedules.proofs.Table.{table_apart}
use Rattle.run_answer.specs.declared.Report.{Report}
use Rattle.run_answer.specs.Answers.{run_report}
use Rattle.frame_run.specs.Lanes.{RunApart}
use Rattle.frame_run.proofs.Condition.{room, accepted}

pub run_apart : RunApart
run_apart bs l m r a b e h less short =
    let f = decode bs in
    let roomy = room bs l e in
    let ok = accepted bs l e in
    let table : m.turns ≡ over (join_map turn_of (run_calls (second bs) f)) l.turns = h.turns ∙ rw (roomy, run_report_lem bs ok) in
    let count : (run_report r).turns ≡ turn_count f = ap (λ (x : Report). x.turns) h.report ∙ rw (roomy, run_report_lem bs ok) in
    subst (λ (t : List ℕ). ApartIn f t a b) (sym table) (table_apart bs _ a b ok less (omega arith))
