-- The answer to an input: a turn table for 8,192 constraints has room for every frame that passes questions 1 to 5, so question 6 makes no
-- difference, and the line of the answer is the first line of the print.
use Rattle.std.proofs.Common.{ℕ, ◌+◌, ◌*◌, ◌≤◌, ◌<◌, ◌≡◌, refl, sym, ap, ◌∙◌, Bool, true, not, List, Result, Ok, Err, is_err, arith, eqb, ltb, length, le-leb, lt-ltb, le-ltb, eqb-true, eq-eqb}
use Rattle.lists.specs.Basics.{over}
use Rattle.lists.proofs.Laws.{by_cases, clashes}
use Rattle.frame.specs.Questions.{asked}
use Rattle.frame.specs.Files.{second, count_m, count_j, decode, file_questions}
use Rattle.schedules.specs.Runs as runs
use Rattle.schedules.specs.Runs.{turns_of, run_calls, refused, run_refusal, run_of}
use Rattle.schedules.specs.Print.{head_of, refusal_line, first_line, answer_to}
use Rattle.run_answer.specs.declared.Report.{Report}
use Rattle.frame.specs.declared.refusal.Refusal.{Refusal}
use Rattle.frame.specs.declared.refusal.Refusal.TheVariants.{TooMany}
use Rattle.frame.specs.Refusals.{refused_by}
use Rattle.run_answer.specs.Answers.{run_report, reported}
use Rattle.frame_run.proofs.Runs.{all_asked}
use Rattle.frame_run.proofs.Frames.{turns_long}
use Rattle.frame.proofs.Questions.{zero-cond}
use Rattle.frame.proofs.Files.{file_sized}
use Rattle.standalone_run.specs.Runs.{roomy_turns, RanAlone}
use Rattle.print_pieces.specs.Pieces.{answer_line, InputAnswered}

pub run_refusal_lem : (bs : List ℕ) (room : Bool) → (run_of bs room).refusal ≡ run_refusal bs room
unfolding run_of
run_refusal_lem bs room = by_cases (eqb (run_refusal bs room) 0) (λ e. rw e (sym (eqb-true (run_refusal bs room) 0 e))) (λ e. rw e)

-- question 6 is passed where it is put
same-refusal : (bs ts : List ℕ) → 24576 ≤ length ts → run_refusal bs (roomy_turns bs ts) ≡ run_refusal bs true
same-refusal bs ts h =
    rw (all_asked bs (roomy_turns bs ts), all_asked bs true)
    (by_cases (eqb (asked (file_questions bs)) 0)
    (λ t. let s = file_sized bs (eqb-true _ 0 t) in rw (le-leb (3 * (count_m bs + count_j bs)) (length ts) (omega (arith, s.manifolds, s.joints))))
    (λ t. rw t))

same_run : (bs ts : List ℕ) → 24576 ≤ length ts → run_of bs (roomy_turns bs ts) ≡ run_of bs true
unfolding run_of
same_run bs ts h = rw (same-refusal bs ts h)

-- the line of an answer is the first line of its run
run_line : (bs : List ℕ) (room : Bool) (r : Result Report Refusal) → refused_by r ≡ run_refusal bs room → is_err r ≡ not (eqb (run_refusal bs room) 0)
    → run_report r ≡ reported (run_of bs room)
    → answer_line r ≡ first_line (run_of bs room)
unfolding first_line
run_line bs room (Ok s) n c e =
    rw (eq-eqb (run_of bs room).refusal 0 (run_refusal_lem bs room ∙ sym n))
    (ap (λ (r : Report). head_of r.islands r.turns r.takes r.degree) e)
run_line bs room (Err k) n c e =
    by_cases (eqb (run_refusal bs room) 0)
    (λ t. clashes true refl (c ∙ rw t))
    (λ t. rw (run_refusal_lem bs room, t) (ap refusal_line n))

-- what is printed of: the run within the limit, refusal 3 above it
run_answer : (bs : List ℕ) → length bs ≤ 61451 → answer_to bs ≡ run_of bs true
unfolding answer_to
run_answer bs few = rw (le-ltb 61451 (length bs) few)

long_answer : (bs : List ℕ) → 61451 < length bs → answer_to bs ≡ refused 3
unfolding answer_to
long_answer bs many = rw (lt-ltb 61451 (length bs) many)

pub run_answered : (bs ts ts' : List ℕ) (r : Result Report Refusal) → 24576 ≤ length ts → length bs ≤ 61451 → RanAlone bs ts ts' r → InputAnswered bs ts ts' r
run_answered bs ts ts' r room few a =
    let e : run_of bs (roomy_turns bs ts) ≡ answer_to bs = same_run bs ts room ∙ sym (run_answer bs few) in
    record {
      line = run_line bs (roomy_turns bs ts) r a.refusal a.refused a.report ∙ ap first_line e;
      turns = ap (λ (s : Report). s.turns) a.report ∙ ap (λ (s : runs.Report). s.turns) e;
      table = a.turns ∙ ap (λ (s : runs.Report). over s.table ts) e;
    }

pub long_answered : (bs ts : List ℕ) → 61451 < length bs → InputAnswered bs ts ts (Err TooMany)
unfolding first_line
long_answered bs ts many =
    let e : refused 3 ≡ answer_to bs = sym (long_answer bs many) in
    record {
      line = ap first_line e;
      turns = ap (λ (s : runs.Report). s.turns) e;
      table = ap (λ (s : runs.Report). over s.table ts) e;
    }

-- ---- three entries a turn
pub table_long : (bs : List ℕ) → length (answer_to bs).table ≡ 3 * (answer_to bs).turns
unfolding answer_to run_of
table_long bs =
    by_cases (ltb 61451 (length bs))
    (λ e. rw e)
    (λ e. rw e (by_cases (eqb (run_refusal bs true) 0) (λ t. rw t (turns_long (turns_of (run_calls (second bs) (decode bs))))) (λ t. rw t)))

-- ---- a run that has turns is that of an accepted file
pub turns_asked : (bs : List ℕ) → 0 < (answer_to bs).turns → asked (file_questions bs) ≡ 0
unfolding answer_to run_of
turns_asked bs h =
    by_cases (ltb 61451 (length bs))
    (λ e. absurd (omega (arith, rw e at h)))
    (λ e. by_cases (eqb (run_refusal bs true) 0)
    (λ t. run_asked (eqb-true (run_refusal bs true) 0 t))
    (λ t. absurd (omega (arith, rw (e, t) at h))))
  where
    run_asked : run_refusal bs true ≡ 0 → asked (file_questions bs) ≡ 0
    run_asked z = (zero-cond (asked (file_questions bs)) _ (sym (all_asked bs true) ∙ z)).0
