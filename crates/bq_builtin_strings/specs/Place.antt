-- Places in a list of `len` elements (Starlark, "Index expressions", "Slice expressions").
use Rattle.std.specs.Prelude.{ℕ, suc, ◌-◌, nat_lt, nat_le, min, cond, ℤ, pos, negsuc, Option, Some, None, Result, Ok, Err}
use Rattle.bq_base.specs.declared.fault.EvalFault.{EvalFault}
use Rattle.bq_base.specs.declared.fault.EvalFault.TheVariants.{Index}

-- from the end where it is negative, the nearest place where it is past one; `negsuc k` is -k - 1
abbrev pub clamped : ℕ → ℤ → ℕ
clamped len (pos k) = min len k
clamped len (negsuc k) = len - suc k

-- or this place, where none is given
abbrev pub bound : ℕ → ℕ → Option ℤ → ℕ
bound len other (Some index) = clamped len index
bound len other None = other

-- the place of an element, or F43
abbrev pub indexed : ℕ → ℤ → Result ℕ EvalFault
indexed len (pos k) = cond (nat_lt k len) (Ok k) (Err Index)
indexed len (negsuc k) = cond (nat_le (suc k) len) (Ok (len - suc k)) (Err Index)
