-- How long a joined or a repeated list or string is (Starlark, "String concatenation", "String repetition").
use Rattle.std.specs.Prelude.{ℕ, nat_le, cond, ℤ, pos, negsuc, Result, Ok, Err}
use Rattle.bq_base.specs.declared.fault.EvalFault.{EvalFault}
use Rattle.bq_base.specs.declared.fault.EvalFault.TheVariants.{TooLong}

-- the most elements of a list, tuple, dict or range
abbrev pub max_len : ℕ
max_len = 1048576

-- the length, or F54
abbrev pub within : ℕ → Result ℕ EvalFault
within n = cond (nat_le n max_len) (Ok n) (Err TooLong)

-- below 1: never
abbrev pub times_of : ℤ → ℕ
times_of (pos n) = n
times_of (negsuc n) = 0
