-- Arithmetic of integers of 64 bits (Starlark, "Arithmetic").
use Rattle.std.specs.Prelude.{ℕ, ◌^◌, nat_lt, Bool, cond, ℤ, pos, negsuc, Option, Result, Ok, Err, SomeIff, FitsSigned, bit_and, bit_or, bit_xor}
use Rattle.std.specs.Int.{w64, cast_signed, cast_unsigned}
use Rattle.bq_base.specs.declared.fault.EvalFault.{EvalFault}
use Rattle.bq_base.specs.declared.fault.EvalFault.TheVariants.{Overflow}

-- from -2^63 to below 2^63
abbrev pub fits : ℤ → Bool
fits (pos n) = nat_lt n (2 ^ 63)
fits (negsuc n) = nat_lt n (2 ^ 63)

-- the answer, or F41
unfoldable pub fitted : ℤ → Result ℤ EvalFault
fitted z = cond (fits z) (Ok z) (Err Overflow)

-- what a checked operation answers
abbrev pub Fitted : Option ℤ → ℤ → Type 0
Fitted answer z = SomeIff answer (FitsSigned w64 z) z

-- of the 64 bits in two's complement
abbrev pub of_bits : (ℕ → ℕ → ℕ) → ℤ → ℤ → ℤ
of_bits operation x y = cast_signed w64 (operation (cast_unsigned w64 x) (cast_unsigned w64 y))

-- `x & y`
abbrev pub both : ℤ → ℤ → ℤ
both x y = of_bits bit_and x y

-- `x | y`
abbrev pub either : ℤ → ℤ → ℤ
either x y = of_bits bit_or x y

-- `x ^ y`
abbrev pub one_of : ℤ → ℤ → ℤ
one_of x y = of_bits bit_xor x y
