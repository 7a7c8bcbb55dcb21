-- The items of ranges (Starlark, "range"): by index, and which integers there are.
use Rattle.std.specs.Prelude.{◌≡◌, ℕ, ◌<◌, ◌%◌, Bool, cond, false, ◌&&◌, ℤ, pos, ◌-ℤ◌, int_lt, int_le, unsigned_abs, ◌==◌, Result, Ok, Err}
use Rattle.std.specs.Ordering.{int_eq}
use Rattle.bq_base.specs.declared.fault.EvalFault.{EvalFault}
use Rattle.bq_value.specs.Range.{range_count, range_element}
use Rattle.bq_builtin_strings.specs.Place.{indexed}

-- the element at an index, or F43
abbrev pub range_item : ℤ → ℤ → ℤ → ℤ → Result ℤ EvalFault
range_item start stop step index = elim (indexed (range_count start stop step) index) [ Ok number ↦ Ok (range_element start step number) | Err e ↦ Err e ]

-- from the start on, and before the end
abbrev pub is_between : ℤ → ℤ → ℤ → ℤ → Bool
is_between start stop step n = cond (int_lt step (pos 0)) (int_lt stop n && int_le n start) (int_le start n && int_lt n stop)

-- whether an integer is an element: it is some steps from the start. A range of step 0, which no program makes, has none
unfoldable pub range_has : ℤ → ℤ → ℤ → ℤ → Bool
range_has start stop step n = cond (int_eq step (pos 0)) false (is_between start stop step n && (unsigned_abs (n -ℤ start) % unsigned_abs step == 0))

-- an integer is an element of a range
abbrev pub IsElement : ℤ → ℤ → ℤ → ℤ → Type 0
IsElement start stop step n = (k : ℕ) × (k < range_count start stop step) × (n ≡ range_element start step k)
