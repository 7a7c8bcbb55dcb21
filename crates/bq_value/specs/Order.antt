-- How two values are ordered (Starlark, "Comparisons"), and the steps that it takes: one for each pair of values that is looked at,
-- by `==` or by the order.
use Rattle.std.specs.Prelude.{ℕ, zero, suc, Bool, true, false, ℤ, List, [], ◌∷◌, Option, Some, Ok, Err}
use Rattle.std.specs.declared.cmp.Ordering.{Ordering}
use Rattle.std.specs.declared.cmp.Ordering.TheVariants.{Less, Equal, Greater}
use Rattle.std.specs.Ordering.{int_cmp, nat_cmp, bool_cmp, is_lt}
use Rattle.std.specs.Cmp.Lexicographic.{slice_cmp}
use Rattle.bq_base.specs.declared.fault.EvalFault.TheVariants.{TooDeep, WrongType}
use Rattle.bq_value.specs.Datum.{Datum, boolean, int, string, tuple, cell, list_of}
use Rattle.bq_value.specs.Contents.{Contents, items}
use Rattle.bq_value.specs.Cells.{StoreView, content_at}
use Rattle.bq_value.specs.Looked.{Looked, stepped}
use Rattle.bq_value.specs.Equality.{Compares, equal_at}

-- how two values are ordered
abbrev pub Orders : Type 0
Orders = ℕ → Datum → Datum → Looked Ordering

-- equal values are passed over, the first unequal ones decide
abbrev pub at_first : Looked Bool → (ℕ → Looked Ordering) → (ℕ → Looked Ordering) → Looked Ordering
at_first (Ok (true, n)) rest here = rest n
at_first (Ok (false, n)) rest here = here n
at_first (Err e) rest here = Err e

-- by the first unequal values, then the shorter one first
abbrev pub lists_ordered : Compares → Orders → ℕ → List Datum → List Datum → Looked Ordering
lists_ordered same order n [] [] = Ok (Equal, n)
lists_ordered same order n [] (y ∷ ys) = Ok (Less, n)
lists_ordered same order n (x ∷ xs) [] = Ok (Greater, n)
lists_ordered same order n (x ∷ xs) (y ∷ ys) = at_first (same n x y) (λ m. lists_ordered same order m xs ys) (λ m. order m x y)

-- the order of two lists; dicts have none
abbrev pub contents_ordered : Compares → Orders → ℕ → Contents → Contents → Looked Ordering
contents_ordered same order n (items xs) (items ys) = lists_ordered same order n xs ys
contents_ordered same order n _ _ = Err WrongType

-- the order of what two cells hold
abbrev pub cells_ordered : Compares → Orders → ℕ → Option Contents → Option Contents → Looked Ordering
cells_ordered same order n (Some c) (Some d) = contents_ordered same order n c d
cells_ordered same order n _ _ = Err WrongType

-- a bool is ordered with a bool, and so on; all else is F40
unfoldable pub bool_ordered : ℕ → Bool → Datum → Looked Ordering
bool_ordered n a (boolean b) = Ok (bool_cmp a b, n)
bool_ordered n a _ = Err WrongType

-- the order of an integer and another
unfoldable pub int_ordered : ℕ → ℤ → Datum → Looked Ordering
int_ordered n a (int b) = Ok (int_cmp a b, n)
int_ordered n a _ = Err WrongType

-- the order of a string and another, by their bytes
unfoldable pub string_ordered : ℕ → List ℕ → Datum → Looked Ordering
string_ordered n a (string b) = Ok (slice_cmp nat_cmp a b, n)
string_ordered n a _ = Err WrongType

-- the order of a tuple and another
unfoldable pub tuple_ordered : Compares → Orders → ℕ → List Datum → Datum → Looked Ordering
tuple_ordered same order n xs (tuple ys) = lists_ordered same order n xs (list_of ys)
tuple_ordered same order n xs _ = Err WrongType

-- the order of a list and another
unfoldable pub cell_ordered : Compares → Orders → StoreView → ℕ → Option Contents → Datum → Looked Ordering
cell_ordered same order s n c (cell b j) = cells_ordered same order n c (content_at s b j)
cell_ordered same order s n c _ = Err WrongType

-- the order of two values of one type that has one
abbrev pub parts_ordered : Compares → Orders → StoreView → ℕ → Datum → Datum → Looked Ordering
parts_ordered same order s n (boolean a) b = bool_ordered n a b
parts_ordered same order s n (int a) b = int_ordered n a b
parts_ordered same order s n (string a) b = string_ordered n a b
parts_ordered same order s n (tuple xs) b = tuple_ordered same order n (list_of xs) b
parts_ordered same order s n (cell a i) b = cell_ordered same order s n (content_at s a i) b
parts_ordered same order s n _ b = Err WrongType

-- where this many levels may be looked at
abbrev pub ordered_at : ℕ → StoreView → Orders
ordered_at zero s n a b = stepped n (λ m. Err TooDeep)
ordered_at (suc l) s n a b = stepped n (λ m. parts_ordered (equal_at l s) (ordered_at l s) s m a b)

-- whether the first is less
abbrev pub less_of : Looked Ordering → Looked Bool
less_of (Ok (order, n)) = Ok (is_lt order, n)
less_of (Err e) = Err e
