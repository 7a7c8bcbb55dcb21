-- Integers in a row that all have 64 bits.
use Rattle.std.specs.Prelude.{ℕ, zero, suc, ℤ, ◌+ℤ◌, FitsSigned}
use Rattle.std.specs.Int.{w64}
use Rattle.bq_builtin_machine.specs.declared.range_walk.RangeWalk.TheInside.{Inside}

-- so many integers, from the first on and each `step` further, have 64 bits with a sign
abbrev pub AllFit : ℤ → ℤ → ℕ → Type 0
AllFit first step zero = Unit {0}
AllFit first step (suc n) = FitsSigned w64 first × AllFit (first +ℤ step) step n

-- the integers that a walk over a range has left have 64 bits with a sign
abbrev pub RestFits : Inside → Type 0
RestFits w = AllFit w.next w.step w.left
