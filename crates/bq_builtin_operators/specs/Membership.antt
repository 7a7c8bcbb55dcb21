-- Whether a value is in another (Starlark, "Membership tests"), and the steps that are left.
use Rattle.std.specs.Prelude.{ℕ, Bool, true, false, ℤ, List, [], ◌∷◌, Option, Some, Ok, Err, is_some}
use Rattle.bq_base.specs.declared.fault.EvalFault.TheVariants.{WrongType}
use Rattle.bq_value.specs.Datum.{Datum, int, string, tuple, range, cell, list_of}
use Rattle.bq_value.specs.Contents.{Contents, items, pairs}
use Rattle.bq_value.specs.Pairs.{found}
use Rattle.bq_value.specs.Cells.{StoreView, content_at}
use Rattle.bq_value.specs.Looked.{Looked, max_levels}
use Rattle.bq_value.specs.Equality.{Compares}
use Rattle.bq_value.specs.KeyWalk.{walked_at, keyed}
use Rattle.bq_builtin_machine.specs.Machine.{looked_equal}
use Rattle.bq_builtin_strings.specs.Search.{find}
use Rattle.bq_builtin_strings.specs.RangeItem.{range_has}

-- goes on where the answer is no
abbrev pub if_not : Looked Bool → (ℕ → Looked Bool) → Looked Bool
if_not (Ok (true, n)) next = Ok (true, n)
if_not (Ok (false, n)) next = next n
if_not (Err kind) next = Err kind

-- one of these values is equal to it; no value after the first such one is looked at
abbrev pub among : Compares → ℕ → Datum → List Datum → Looked Bool
among compare n v [] = Ok (false, n)
among compare n v (x ∷ xs) = if_not (compare n v x) (λ m. among compare m v xs)

-- a substring of a string; only a string is one
unfoldable pub in_string : ℕ → Datum → List ℕ → Looked Bool
in_string n (string sub) text = Ok (is_some (find sub text), n)
in_string n _ text = Err WrongType

-- an element of a range; only an integer is one
unfoldable pub in_range : ℕ → Datum → ℤ → ℤ → ℤ → Looked Bool
in_range n (int i) start stop step = Ok (range_has start stop step i, n)
in_range n _ start stop step = Err WrongType

-- `v in xs`, of the elements of a list
unfoldable pub in_list : StoreView → ℕ → Datum → List Datum → Looked Bool
in_list s n v xs = among (looked_equal s) n v xs

-- `v in ps`, of the keys of a dict; a value that makes no key is refused (F45)
unfoldable pub in_dict : ℕ → Datum → List (Datum × Datum) → Looked Bool
in_dict n v ps = elim (keyed v (walked_at max_levels n v)) [ Ok (key, n) ↦ Ok (is_some (found key ps), n) | Err kind ↦ Err kind ]

-- `v in x`, by what the cell of `x` holds
abbrev pub in_content : StoreView → ℕ → Datum → Option Contents → Looked Bool
in_content s n v (Some (items xs)) = in_list s n v xs
in_content s n v (Some (pairs ps)) = in_dict n v ps
in_content s n v _ = Err WrongType

-- `v in container`
abbrev pub contained : StoreView → ℕ → Datum → Datum → Looked Bool
contained s n v (string text) = in_string n v text
contained s n v (tuple xs) = in_list s n v (list_of xs)
contained s n v (range start stop step) = in_range n v start stop step
contained s n v (cell home number) = in_content s n v (content_at s home number)
contained s n v _ = Err WrongType
