-- Division of integers of 64 bits that rounds down (Starlark, "Arithmetic").
use Rattle.std.specs.Prelude.{◌≡◌, ◌<◌, zero, suc, ◌-◌, ◌/◌, ◌%◌, ℤ, pos, negsuc, neg_ℤ, Result, Ok, Err}
use Rattle.bq_base.specs.declared.fault.EvalFault.{EvalFault}
use Rattle.bq_base.specs.declared.fault.EvalFault.TheVariants.{DivZero}
use Rattle.bq_builtin_strings.specs.Integer.{fitted}

-- the quotient, rounded down; `negsuc n` is -n - 1
abbrev pub floor_quotient : ℤ → ℤ → ℤ
floor_quotient (pos a) (pos b) = pos (a / b)
floor_quotient (pos zero) (negsuc b) = pos 0
floor_quotient (pos (suc a)) (negsuc b) = negsuc (a / suc b)
floor_quotient (negsuc a) (pos b) = negsuc (a / b)
floor_quotient (negsuc a) (negsuc b) = pos (suc a / suc b)

-- what it leaves, which has the sign of the divisor
abbrev pub floor_rest : ℤ → ℤ → ℤ
floor_rest (pos a) (pos b) = pos (a % b)
floor_rest (pos zero) (negsuc b) = pos 0
floor_rest (pos (suc a)) (negsuc b) = neg_ℤ (pos (b - a % suc b))
floor_rest (negsuc a) (pos b) = pos (b - 1 - a % b)
floor_rest (negsuc a) (negsuc b) = neg_ℤ (pos (suc a % suc b))

-- from 0 on, below the divisor, or above it where that is negative
abbrev pub IsRestOf : ℤ → ℤ → Type 0
IsRestOf (pos b) (pos r) = r < b
IsRestOf (pos b) (negsuc r) = ⊥
IsRestOf (negsuc b) (pos r) = r ≡ 0
IsRestOf (negsuc b) (negsuc r) = r < b

-- `x // y`
unfoldable pub divided : ℤ → ℤ → Result ℤ EvalFault
divided x (pos zero) = Err DivZero
divided x (pos (suc b)) = fitted (floor_quotient x (pos (suc b)))
divided x (negsuc b) = fitted (floor_quotient x (negsuc b))

-- `x % y`, which always fits
unfoldable pub remainder : ℤ → ℤ → Result ℤ EvalFault
remainder x (pos zero) = Err DivZero
remainder x (pos (suc b)) = Ok (floor_rest x (pos (suc b)))
remainder x (negsuc b) = Ok (floor_rest x (negsuc b))
