-- When two values are equal (Starlark, "Comparisons"), and the steps that it takes to see it: one for each pair of values.
use Rattle.std.specs.Prelude.{ℕ, zero, suc, Bool, true, false, cond, ◌&&◌, ℤ, List, [], ◌∷◌, length, Option, Some, None, Ok, Err, ◌==◌}
use Rattle.bq_base.specs.declared.fault.EvalFault.TheVariants.{TooDeep}
use Rattle.bq_value.specs.Datum.{Datum, tuple, range, cell, function, list_of}
use Rattle.bq_value.specs.Range.{ranges_same}
use Rattle.bq_value.specs.Same.{same}
use Rattle.bq_value.specs.Contents.{Contents, items, pairs, rule}
use Rattle.bq_value.specs.Cells.{StoreView, content_at}
use Rattle.bq_value.specs.Pairs.{found}
use Rattle.bq_value.specs.Looked.{Looked, stepped}

-- goes on where the answer is yes
abbrev pub if_so : Looked Bool → (ℕ → Looked Bool) → Looked Bool
if_so (Ok (true, n)) next = next n
if_so (Ok (false, n)) next = Ok (false, n)
if_so (Err e) next = Err e

-- how two values are compared
abbrev pub Compares : Type 0
Compares = ℕ → Datum → Datum → Looked Bool

-- each with its partner, in order, to the first that differ
abbrev pub all_equal : Compares → ℕ → List Datum → List Datum → Looked Bool
all_equal compare n [] ys = Ok (true, n)
all_equal compare n (x ∷ xs) [] = Ok (false, n)
all_equal compare n (x ∷ xs) (y ∷ ys) = if_so (compare n x y) (λ m. all_equal compare m xs ys)

-- lists of unlike lengths differ, and no part of them is looked at
abbrev pub lists_equal : Compares → ℕ → List Datum → List Datum → Looked Bool
lists_equal compare n xs ys = cond (length xs == length ys) (all_equal compare n xs ys) (Ok (false, n))

-- a value equals what the other dict has at its key, if it has that
abbrev pub partner_equal : Compares → ℕ → Datum → Option Datum → Looked Bool
partner_equal compare n v None = Ok (false, n)
partner_equal compare n v (Some w) = compare n v w

-- the value of each key with the one that the other has there, in the left one's order
abbrev pub pairs_equal : Compares → ℕ → List (Datum × Datum) → List (Datum × Datum) → Looked Bool
pairs_equal compare n [] qs = Ok (true, n)
pairs_equal compare n (p ∷ ps) qs = if_so (partner_equal compare n p.1 (found p.0 qs)) (λ m. pairs_equal compare m ps qs)

-- dicts of one length, equal at each key
abbrev pub dicts_equal : Compares → ℕ → List (Datum × Datum) → List (Datum × Datum) → Looked Bool
dicts_equal compare n ps qs = cond (length ps == length qs) (pairs_equal compare n ps qs) (Ok (false, n))

-- what two cells hold, and whether they are one cell: a rule is equal to itself alone
abbrev pub contents_equal : Compares → ℕ → Bool → Contents → Contents → Looked Bool
contents_equal compare n one (items xs) (items ys) = lists_equal compare n xs ys
contents_equal compare n one (pairs ps) (pairs qs) = dicts_equal compare n ps qs
contents_equal compare n one (rule c) (rule d) = Ok (one, n)
contents_equal compare n one _ _ = Ok (false, n)

-- Of cells that the store doesn't know, which no program has, it is said that they are equal.
abbrev pub cells_equal : Compares → ℕ → Bool → Option Contents → Option Contents → Looked Bool
cells_equal compare n one (Some c) (Some d) = contents_equal compare n one c d
cells_equal compare n one None None = Ok (true, n)
cells_equal compare n one _ _ = Ok (false, n)

-- ranges are equal by their elements
abbrev pub range_equal : ℤ → ℤ → ℤ → Datum → Bool
range_equal a b c (range d e f) = ranges_same a b c d e f
range_equal a b c _ = false

-- functions are equal by identity: they come from one `def`
abbrev pub function_equal : ℕ → ℕ → Datum → Bool
function_equal a i (function b j _ _) = (a == b) && (i == j)
function_equal a i _ = false

-- a tuple equals a tuple
abbrev pub tuple_equal : Compares → ℕ → List Datum → Datum → Looked Bool
tuple_equal compare n xs (tuple ys) = lists_equal compare n xs (list_of ys)
tuple_equal compare n xs _ = Ok (false, n)

-- a list or dict equals another, or is the same cell
abbrev pub cell_equal : Compares → StoreView → ℕ → ℕ → ℕ → Datum → Looked Bool
cell_equal compare s n a i (cell b j) = cells_equal compare n ((a == b) && (i == j)) (content_at s a i) (content_at s b j)
cell_equal compare s n a i _ = Ok (false, n)

-- two values whose parts are compared so: values of unlike types differ, and those without parts are equal where they are the same
abbrev pub parts_equal : Compares → StoreView → ℕ → Datum → Datum → Looked Bool
parts_equal compare s n (tuple xs) b = tuple_equal compare n (list_of xs) b
parts_equal compare s n (range start stop step) b = Ok (range_equal start stop step b, n)
parts_equal compare s n (cell a i) b = cell_equal compare s n a i b
parts_equal compare s n (function a i _ _) b = Ok (function_equal a i b, n)
parts_equal compare s n a b = Ok (same a b, n)

-- where this many levels may be looked at
abbrev pub equal_at : ℕ → StoreView → Compares
equal_at zero s n a b = stepped n (λ m. Err TooDeep)
equal_at (suc l) s n a b = stepped n (λ m. parts_equal (equal_at l s) s m a b)
