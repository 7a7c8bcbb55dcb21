-- Which values make keys (Starlark, "Hashing"), one step for each value visited.
use Rattle.std.specs.Prelude.{ℕ, zero, suc, List, [], ◌∷◌, Result, Ok, Err}
use Rattle.bq_base.specs.declared.fault.EvalFault.{EvalFault}
use Rattle.bq_base.specs.declared.fault.EvalFault.TheVariants.{StepLimit, TooDeep, Unhashable}
use Rattle.bq_value.specs.Datum.{Datum, none, boolean, int, string, tuple, list_of}
use Rattle.bq_value.specs.Looked.{Looked}

-- the steps that are left, or the fault
abbrev pub Walked : Type 0
Walked = Result ℕ EvalFault

-- a step of a walk over a key
abbrev pub walk_step : ℕ → (ℕ → Walked) → Walked
walk_step zero next = Err StepLimit
walk_step (suc n) next = next n

-- what follows, unless the walk ended in a fault
abbrev pub and_walk : Walked → (ℕ → Walked) → Walked
and_walk (Ok n) next = next n
and_walk (Err e) next = Err e

-- the elements of a tuple, in turn
abbrev pub all_walked : (ℕ → Datum → Walked) → ℕ → List Datum → Walked
all_walked walk n [] = Ok n
all_walked walk n (x ∷ xs) = and_walk (walk n x) (λ m. all_walked walk m xs)

-- the parts of a key; what can change is none
abbrev pub parts_walked : (ℕ → Datum → Walked) → ℕ → Datum → Walked
parts_walked walk n none = Ok n
parts_walked walk n (boolean b) = Ok n
parts_walked walk n (int i) = Ok n
parts_walked walk n (string s) = Ok n
parts_walked walk n (tuple xs) = all_walked walk n (list_of xs)
parts_walked walk n _ = Err Unhashable

-- where this many levels may be looked at
abbrev pub walked_at : ℕ → ℕ → Datum → Walked
walked_at zero n v = walk_step n (λ m. Err TooDeep)
walked_at (suc l) n v = walk_step n (λ m. parts_walked (walked_at l) m v)

-- the key is the value itself, where the walk goes through
abbrev pub keyed : Datum → Walked → Looked Datum
keyed v (Ok n) = Ok (v, n)
keyed v (Err kind) = Err kind
