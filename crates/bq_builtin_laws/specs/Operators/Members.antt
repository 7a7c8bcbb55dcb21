-- What is in a list, a tuple or a dict (Starlark, "Membership tests", "Index expressions").
use Rattle.std.specs.Prelude.{◌≡◌, ℕ, true, false, List, ◌∷◌, ◌++◌, Some, Ok, Err}
use Rattle.std.specs.List.{AllByRecursion}
use Rattle.bq_base.specs.declared.fault.EvalFault.{EvalFault}
use Rattle.bq_base.specs.declared.fault.EvalFault.TheVariants.{NoKey}
use Rattle.bq_value.specs.Cells.{StoreView, content_at}
use Rattle.bq_value.specs.Contents.{items, pairs}
use Rattle.bq_value.specs.Datum.{Datum, Data, tuple, cell, list_of}
use Rattle.bq_builtin_machine.specs.Machine.{looked_equal}
use Rattle.bq_builtin_operators.specs.Membership.{contained}
use Rattle.bq_builtin_operators.specs.Subscript.{item_of}

-- ---- lists and tuples

-- the value is a tuple or a list of these elements
pub data HasElements (s : StoreView) (c : Datum) (xs : List Datum) : Type 0 where
  of_tuple : (values : Data) → c ≡ tuple values → xs ≡ list_of values → HasElements s c xs
  of_list : (home number : ℕ) → c ≡ cell home number → content_at s home number ≡ Some (items xs) → HasElements s c xs

-- looked at with `left` steps, the value is equal to one of the elements
pub record IsEqualToOne (s : StoreView) (v : Datum) (xs : List Datum) (left : ℕ) : Type 0 where
  pub before : List Datum
  pub element : Datum
  pub after : List Datum
  pub elements : xs ≡ before ++ element ∷ after
  pub steps : ℕ
  pub equal : looked_equal s steps v element ≡ Ok (true, left)

-- the value is not equal to this element
pub record IsNotEqual (s : StoreView) (v x : Datum) : Type 0 where
  pub steps : ℕ
  pub left : ℕ
  pub unequal : looked_equal s steps v x ≡ Ok (false, left)

-- `v in c` is true only where `v` is equal to one of these elements, and false only where it is equal to none
pub record IsMember (s : StoreView) (n : ℕ) (v c : Datum) (xs : List Datum) : Type 0 where
  pub inside : (left : ℕ) → contained s n v c ≡ Ok (true, left) → IsEqualToOne s v xs left
  pub outside : (left : ℕ) → contained s n v c ≡ Ok (false, left) → AllByRecursion (IsNotEqual s v) xs

-- what is in a tuple or a list is equal to an element, and what isn't is equal to none
abbrev pub MembersAreEqualToAnElement : Type 0
MembersAreEqualToAnElement = (s : StoreView) (n : ℕ) (v c : Datum) (xs : List Datum) → HasElements s c xs → IsMember s n v c xs

-- ---- dicts

-- whether a value is in the dict is whether it has a value for it, and both are refused for the same
pub record IsKey (s : StoreView) (n : ℕ) (v c : Datum) : Type 0 where
  pub there : (left : ℕ) → contained s n v c ≡ Ok (true, left) → (x : Datum) × (item_of s n c v ≡ Ok (x, left))
  pub absent : (left : ℕ) → contained s n v c ≡ Ok (false, left) → item_of s n c v ≡ Err NoKey
  pub refused : (why : EvalFault) → contained s n v c ≡ Err why → item_of s n c v ≡ Err why

-- `v in d` is true where `d[v]` is a value, false where that is F44, and refused for the same
abbrev pub KeysHaveValues : Type 0
KeysHaveValues =
    (s : StoreView) (n home number : ℕ) (v : Datum) (ps : List (Datum × Datum)) → content_at s home number ≡ Some (pairs ps) → IsKey s n v (cell home number)
