-- A walk over values: its answer with the steps that are left, or its fault. A step is taken before a value is looked at.
use Rattle.std.specs.Prelude.{ℕ, zero, suc, Result, Err}
use Rattle.bq_base.specs.declared.fault.EvalFault.{EvalFault}
use Rattle.bq_base.specs.declared.fault.EvalFault.TheVariants.{StepLimit}

-- what is found by looking through values, with the steps left; or a fault
abbrev pub Looked : Type 0 → Type 0
Looked A = Result (A × ℕ) EvalFault

-- one step, and then what comes after it
abbrev pub stepped : {A : Type 0} → ℕ → (ℕ → Looked A) → Looked A
stepped zero next = Err StepLimit
stepped (suc n) next = next n

-- at most this many levels of values are looked at, the outermost being the first
abbrev pub max_levels : ℕ
max_levels = 64
