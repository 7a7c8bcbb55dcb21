-- Parts of definitions, as words that proofs name.
use Rattle.std.specs.Prelude.{Err, Ok, Result, ℕ, ℤ, List, None, Option, Some, ◌∷◌}
use Rattle.bq_base.specs.declared.fault.EvalFault.{EvalFault}
use Rattle.bq_value.specs.Range.{range_element}
use Rattle.bq_builtin_strings.specs.Shift.{halved, scaled}

-- `x >> n`, by the distance, if that is allowed
abbrev pub halved_by : ℤ → Result ℕ EvalFault → Result ℤ EvalFault
halved_by x o = elim o [ Ok n ↦ Ok (halved x n) | Err e ↦ Err e ]

-- `x << n`, by the distance, if that is allowed
abbrev pub scaled_by : ℤ → Result ℕ EvalFault → Result ℤ EvalFault
scaled_by x o = elim o [ Ok n ↦ scaled x n | Err e ↦ Err e ]

-- the element of a range by its number, if the index was in it
abbrev pub element_by : ℤ → ℤ → Result ℕ EvalFault → Result ℤ EvalFault
element_by start step o = elim o [ Ok number ↦ Ok (range_element start step number) | Err e ↦ Err e ]

-- a list with an element before it, if there is one
abbrev pub with_first : {A : Type 0} → Option A → List A → List A
with_first o xs = elim o [ Some x ↦ x ∷ xs | None ↦ xs ]
