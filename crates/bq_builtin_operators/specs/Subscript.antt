-- The item at an index or a key (Starlark, "Index expressions"), and the steps that are left.
use Rattle.std.specs.Prelude.{ℕ, ℤ, List, [], ◌∷◌, length, slice_get, Option, Some, None, Result, Ok, Err}
use Rattle.bq_base.specs.declared.fault.EvalFault.{EvalFault}
use Rattle.bq_base.specs.declared.fault.EvalFault.TheVariants.{WrongType, Index, NoKey}
use Rattle.bq_value.specs.Datum.{Datum, string, tuple, range, cell, list_of}
use Rattle.bq_value.specs.Contents.{Contents, items, pairs}
use Rattle.bq_value.specs.Pairs.{found}
use Rattle.bq_value.specs.Cells.{StoreView, content_at}
use Rattle.bq_value.specs.Looked.{Looked, max_levels}
use Rattle.bq_value.specs.KeyWalk.{walked_at, keyed}
use Rattle.bq_builtin_strings.specs.Place.{indexed}
use Rattle.bq_builtin_strings.specs.RangeItem.{range_item}
use Rattle.bq_builtin_operators.specs.Operand.{int_of}
use Rattle.bq_builtin_machine.specs.Answer.{and_then, as_int}

-- what was found, or this fault
abbrev pub or_fault : {A : Type 0} → EvalFault → Option A → Result A EvalFault
or_fault kind (Some a) = Ok a
or_fault kind None = Err kind

-- the element at an index, which may count from the end
unfoldable pub item_in : {A : Type 0} → List A → Datum → Result A EvalFault
item_in xs index = and_then (int_of index) (λ i. and_then (indexed (length xs) i) (λ k. or_fault Index (slice_get xs k)))

-- a string of one byte
unfoldable pub byte_in : List ℕ → Datum → Result Datum EvalFault
byte_in text index = and_then (item_in text index) (λ b. Ok (string (b ∷ [])))

-- the integer at an index of a range
unfoldable pub integer_in : ℤ → ℤ → ℤ → Datum → Result Datum EvalFault
integer_in start stop step index = as_int (and_then (int_of index) (λ i. range_item start stop step i))

-- no steps are taken
abbrev pub at_no_cost : ℕ → Result Datum EvalFault → Looked Datum
at_no_cost n r = and_then r (λ v. Ok (v, n))

-- the value at a key; a value that makes no key is F45, a key that is not there F44
unfoldable pub value_in : ℕ → List (Datum × Datum) → Datum → Looked Datum
value_in n ps key = elim (keyed key (walked_at max_levels n key)) [ Ok (key, n) ↦ at_no_cost n (or_fault NoKey (found key ps)) | Err kind ↦ Err kind ]

-- `x[index]`, by what the cell of `x` holds
abbrev pub content_item : ℕ → Option Contents → Datum → Looked Datum
content_item n (Some (items xs)) index = at_no_cost n (item_in xs index)
content_item n (Some (pairs ps)) key = value_in n ps key
content_item n _ index = Err WrongType

-- `container[index]`
abbrev pub item_of : StoreView → ℕ → Datum → Datum → Looked Datum
item_of s n (string text) index = at_no_cost n (byte_in text index)
item_of s n (tuple xs) index = at_no_cost n (item_in (list_of xs) index)
item_of s n (range start stop step) index = at_no_cost n (integer_in start stop step index)
item_of s n (cell home number) index = content_item n (content_at s home number) index
item_of s n _ index = Err WrongType
