-- The report of an answer as `unwrap_or_default` gives it: four zeros where refused.
use Rattle.std.proofs.Common.{ℕ, ◌≡◌, Result, Ok, Err}
use Rattle.std.specs.Result.{ResultUnwrapsOrElse}
use Rattle.frame.specs.declared.refusal.Refusal.{Refusal}
use Rattle.run_answer.specs.declared.Report.{Report}
use Rattle.run_answer.specs.contracts.ReportDefault.TheImpl.{is_default-value}
use Rattle.run_answer.specs.Answers.{run_report}

abbrev report_with : ℕ → ℕ → ℕ → ℕ → Report
report_with a b c d = record { islands = a; turns = b; takes = c; degree = d }

zeros : (a b c d : ℕ) → a ≡ 0 → b ≡ 0 → c ≡ 0 → d ≡ 0 → report_with a b c d ≡ report_with 0 0 0 0
zeros a b c d ea eb ec ed = rw (ea, eb, ec, ed)

pub report_unwrapped : (r : Result Report Refusal) (x : Report) → ResultUnwrapsOrElse r is_default-value.it x → x ≡ run_report r
report_unwrapped (Ok a) x h = h
report_unwrapped (Err e) x h = zeros x.islands x.turns x.takes x.degree h.0 h.1.0 h.1.1.0 h.1.1.1
