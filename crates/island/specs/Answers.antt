-- How many islands an answer tells.
use Rattle.std.specs.Prelude.{ℕ, Result}
use Rattle.std.specs.Result.{result_unwrap_or}
use Rattle.frame.specs.declared.refusal.Refusal.{Refusal}

-- 0 where refused
abbrev pub answer_islands : Result ℕ Refusal → ℕ
answer_islands r = result_unwrap_or r 0
