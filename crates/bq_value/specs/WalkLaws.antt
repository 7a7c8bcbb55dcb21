-- The definitions of the laws of walks.
use Rattle.std.specs.Prelude.{◌≡◌, ℕ, zero, suc, ◌+◌, ◌<◌, ℤ, Bool, true, false, List, [], ◌∷◌, Option, Some, None, Result, Ok, Err}
use Rattle.std.specs.declared.cmp.Ordering.{Ordering}
use Rattle.std.specs.declared.cmp.Ordering.TheVariants.{Less, Equal, Greater}
use Rattle.bq_base.specs.declared.fault.EvalFault.{EvalFault}
use Rattle.bq_base.specs.declared.fault.EvalFault.TheVariants.{StepLimit}
use Rattle.bq_value.specs.Datum.{Datum, none, boolean, int, string, tuple, range, cell, function, built_in, rule_function, attribute, end, datum}
use Rattle.bq_value.specs.Range.{range_count, range_element}
use Rattle.bq_value.specs.Contents.{Contents, items, pairs, rule, KeysDiffer}
use Rattle.bq_value.specs.Cells.{StoreView, content_at}
use Rattle.bq_value.specs.Looked.{Looked, max_levels}
use Rattle.bq_value.specs.Equality.{equal_at}
use Rattle.bq_value.specs.Order.{ordered_at}

-- with some number of steps, a walk has this answer
pub record Answers {A : Type 0} (walk : ℕ → Looked A) (answer : A) : Type 0 where
  pub steps : ℕ
  pub left : ℕ
  pub is : walk steps ≡ Ok (answer, left)

-- `a == b` is so
abbrev pub Equals : StoreView → Datum → Datum → Bool → Type 0
Equals s a b so = Answers (λ n. equal_at max_levels s n a b) so

-- two values are ordered so
abbrev pub Ordered : StoreView → Datum → Datum → Ordering → Type 0
Ordered s a b so = Answers (λ n. ordered_at max_levels s n a b) so

-- no dict of the store has a key twice
abbrev pub KeysAreDistinct : StoreView → Type 0
KeysAreDistinct s = (home number : ℕ) → KeysDiffer (content_at s home number)

-- the types of the language (Starlark, "Data types"); a cell that the store doesn't know has none
pub data Kind : Type 0 where
  none_type : Kind
  bool_type : Kind
  int_type : Kind
  string_type : Kind
  tuple_type : Kind
  range_type : Kind
  list_type : Kind
  dict_type : Kind
  function_type : Kind
  built_in_type : Kind
  rule_function_type : Kind
  attribute_type : Kind
  rule_type : Kind
  no_type : Kind

-- the type of what a cell holds; no type where there is no such cell
abbrev pub content_kind : Option Contents → Kind
content_kind (Some (items xs)) = list_type
content_kind (Some (pairs ps)) = dict_type
content_kind (Some (rule c)) = rule_type
content_kind None = no_type

-- the type of a value; of a list, a dict and a rule by its cell
abbrev pub kind_of : StoreView → Datum → Kind
kind_of s none = none_type
kind_of s (boolean b) = bool_type
kind_of s (int n) = int_type
kind_of s (string t) = string_type
kind_of s (tuple xs) = tuple_type
kind_of s (range a b c) = range_type
kind_of s (cell m i) = content_kind (content_at s m i)
kind_of s (function m i t vs) = function_type
kind_of s (built_in t) = built_in_type
kind_of s (rule_function f) = rule_function_type
kind_of s (attribute a) = attribute_type

-- Two lists by their first unequal values: a list that ends there, where the other goes on, is less.
pub data Decided (s : StoreView) (levels : ℕ) : List Datum → List Datum → Ordering → Type 0 where
  both_end : Decided s levels [] [] Equal
  first_ends : {y : Datum} {ys : List Datum} → Decided s levels [] (y ∷ ys) Less
  second_ends : {x : Datum} {xs : List Datum} → Decided s levels (x ∷ xs) [] Greater
  here : {x y : Datum} {xs ys : List Datum} {o : Ordering} → Answers (λ n. equal_at levels s n x y) false → Answers (λ n. ordered_at levels s n x y) o → Decided s levels (x ∷ xs) (y ∷ ys) o
  later : {x y : Datum} {xs ys : List Datum} {o : Ordering} → Answers (λ n. equal_at levels s n x y) true → Decided s levels xs ys o → Decided s levels (x ∷ xs) (y ∷ ys) o

-- an answer or a fault, with these steps left
abbrev pub with_left : {A : Type 0} → Result A EvalFault → ℕ → Looked A
with_left (Ok a) n = Ok (a, n)
with_left (Err kind) n = Err kind

-- A walk has a number of steps and an outcome of its own: with fewer steps it is F53, with as many or more it has its
-- outcome, and the rest of the steps is left.
pub record Takes {A : Type 0} (walk : ℕ → Looked A) : Type 0 where
  pub steps : ℕ
  pub outcome : Result A EvalFault
  pub enough : (more : ℕ) → walk (steps + more) ≡ with_left outcome more
  pub short : (n : ℕ) → n < steps → walk n ≡ Err StepLimit

-- as many elements, and the same ones at the same places
abbrev pub HaveSameElements : ℤ → ℤ → ℤ → ℤ → ℤ → ℤ → Type 0
HaveSameElements a b c d e f = (range_count a b c ≡ range_count d e f) × ((k : ℕ) → k < range_count a b c → range_element a c k ≡ range_element d f k)

-- `None` in a number of tuples of one, each inside the next
unfoldable pub nested : ℕ → Datum
nested zero = none
nested (suc k) = tuple (datum (nested k) end)
