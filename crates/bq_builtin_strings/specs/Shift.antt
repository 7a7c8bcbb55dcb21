-- Shifts of integers of 64 bits (Starlark, "Arithmetic"): products by powers of two, and quotients by them that are rounded down.
use Rattle.std.specs.Prelude.{ℕ, ◌^◌, nat_lt, cond, ℤ, pos, negsuc, ◌*ℤ◌, Result, Ok, Err}
use Rattle.bq_base.specs.declared.fault.EvalFault.{EvalFault}
use Rattle.bq_base.specs.declared.fault.EvalFault.TheVariants.{BadValue}
use Rattle.bq_builtin_strings.specs.Integer.{fitted}
use Rattle.bq_builtin_strings.specs.Division.{floor_quotient}

-- by how many bits: 0 to 63, else F57
abbrev pub shift_count : ℤ → Result ℕ EvalFault
shift_count (pos n) = cond (nat_lt n 64) (Ok n) (Err BadValue)
shift_count (negsuc n) = Err BadValue

-- the product by that power of two
unfoldable pub scaled : ℤ → ℕ → Result ℤ EvalFault
scaled x n = fitted (x *ℤ pos (2 ^ n))

-- the quotient by that power of two, rounded down, which always fits
unfoldable pub halved : ℤ → ℕ → ℤ
halved x n = floor_quotient x (pos (2 ^ n))

-- `x << count`
abbrev pub shifted_left : ℤ → ℤ → Result ℤ EvalFault
shifted_left x count = elim (shift_count count) [ Ok n ↦ scaled x n | Err e ↦ Err e ]

-- `x >> count`
abbrev pub shifted_right : ℤ → ℤ → Result ℤ EvalFault
shifted_right x count = elim (shift_count count) [ Ok n ↦ Ok (halved x n) | Err e ↦ Err e ]
