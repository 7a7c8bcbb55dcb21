-- The first element of a list that is equal to a value, one step for each pair of values that `==` looks at.
use Rattle.std.specs.Prelude.{ℕ, ◌+◌, ◌-◌, Bool, true, false, ℤ, List, [], ◌∷◌, length, take, drop, Option, Some, None, Ok, Err}
use Rattle.bq_builtin_strings.specs.Place.{bound}
use Rattle.bq_value.specs.Datum.{Datum}
use Rattle.bq_value.specs.Cells.{StoreView}
use Rattle.bq_value.specs.Looked.{Looked}
use Rattle.bq_builtin_machine.specs.Machine.{looked_equal}

-- the place where two values were equal, or what is found further on
abbrev pub if_unequal : Looked Bool → ℕ → (ℕ → Looked (Option ℕ)) → Looked (Option ℕ)
if_unequal (Ok (true, n)) at next = Ok (Some at, n)
if_unequal (Ok (false, n)) at next = next n
if_unequal (Err kind) at next = Err kind

-- its place, where the first element has the place `at`
abbrev pub first_equal : StoreView → ℕ → ℕ → Datum → List Datum → Looked (Option ℕ)
first_equal store n at v [] = Ok (None, n)
first_equal store n at v (x ∷ xs) = if_unequal (looked_equal store n x v) at (λ m. first_equal store m (at + 1) v xs)

-- the same of the elements between two indices, which clamp as those of a slice
unfoldable pub found_between : StoreView → ℕ → List Datum → Datum → Option ℤ → Option ℤ → Looked (Option ℕ)
found_between store n xs v start end =
    first_equal store n (bound (length xs) 0 start) v (take (bound (length xs) (length xs) end - bound (length xs) 0 start) (drop (bound (length xs) 0 start) xs))
