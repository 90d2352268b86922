-- Condition 3 of the code: the contract of `run` reports what the definition's run reports, and that is condition 3's report.
use Rattle.std.proofs.Common.{ℕ, ◌≡◌, refl, sym, ◌∙◌, true, cond, List, [], ◌∷◌}
use Rattle.frame.specs.Frames.{all_sound}
use Rattle.frame.specs.Questions.{question, asked}
use Rattle.frame.specs.Files.{decode, file_questions, frame_refusal}
use Rattle.frame.proofs.Questions.{passed, asked-append, zero-cond}
use Rattle.schedules.proofs.Condition3.{condition3}
use Rattle.frame_tables.specs.Filled.{sound_refusal}
use Rattle.run_answer.specs.Lent.{Lent}
use Rattle.frame_run.specs.Calls.{roomy_in, refusal_in}
use Rattle.frame_run.specs.Condition.{Claim}
use Rattle.frame_run.proofs.Runs.{all_asked}

-- a frame that the run accepts is accepted, and the tables have room
module _ (bs : List ℕ) (l : Lent) (e : refusal_in bs l ≡ 0) where
  parts : (asked (file_questions bs) ≡ 0) × (cond (roomy_in bs l) (sound_refusal bs) 6 ≡ 0)
  parts = zero-cond (asked (file_questions bs)) (cond (roomy_in bs l) (sound_refusal bs) 6) (sym (all_asked bs (roomy_in bs l)) ∙ e)

  pub room : roomy_in bs l ≡ true
  room = (passed (roomy_in bs l) (sound_refusal bs) 5 parts.1).0

  pub accepted : frame_refusal bs ≡ 0
  unfolding frame_refusal sound_refusal
  accepted =
      asked-append (file_questions bs) (question 7 (all_sound (decode bs)) ∷ []) refl ∙ rw parts.0 (passed (roomy_in bs l) (sound_refusal bs) 5 parts.1).1

pub conditioned : Claim
conditioned bs l m r p o e h s =
    let c = condition3 bs p o (accepted bs l e) s in
    let room = room bs l e in
    record {
      condition = c;
      report = h.report ∙ rw (room, c.report, c.turns, c.takes);
      turns = h.turns ∙ rw (room, c.report);
    }
