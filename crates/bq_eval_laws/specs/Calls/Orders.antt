-- In which order a call of a function is refused (Starlark, "Function and method calls"; ours: the order).
use Rattle.std.specs.Prelude.{ℕ, not, nat_lt, List, [], ◌∷◌, length, Contains}
use Rattle.bq_base.specs.declared.fault.EvalFault.TheVariants.{Recursion, CallDepth}
use Rattle.bq_builtin_machine.specs.Calls.{is_active}
use Rattle.bq_builtin_machine.specs.State.{State}
use Rattle.bq_builtin_machine.specs.Refusals.{Check, when}

-- that function of that module is among those that are running
abbrev pub IsActive : ℕ → ℕ → State → Type 0
IsActive home place s = Contains s.active (home, place)

-- a function becomes active unless it is active already (F50), and then unless 100 functions are active (F51)
abbrev pub entering : State → ℕ → ℕ → List Check
entering s home place = when (is_active home place s.active) Recursion ∷ when (not (nat_lt (length s.active) 100)) CallDepth ∷ []
