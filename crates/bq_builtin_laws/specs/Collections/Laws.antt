-- Words of the laws.
use Rattle.std.specs.Prelude.{◌≡◌, ℕ, List, ◌++◌, Some, Ok}
use Rattle.bq_parse_grammar.specs.declared.tree.Operator.TheVariants as op
use Rattle.bq_value_datum.specs.Class.{Class}
use Rattle.bq_value.specs.Cells.{content_at}
use Rattle.bq_value.specs.Contents.{items, pairs, rule}
use Rattle.bq_value.specs.Datum.{Datum, cell}
use Rattle.bq_builtin_machine.specs.Action.{done}
use Rattle.bq_builtin_machine.specs.Iteration.{elements_in}
use Rattle.bq_builtin_machine.specs.State.{State}
use Rattle.bq_builtin_operators.specs.InPlace.{augment}

-- the cell of that number holds a list of these values
abbrev pub IsList : State → ℕ → ℕ → List Datum → Type 0
IsList s home number xs = content_at s.store home number ≡ Some (items xs)

-- the cell of that number holds a dict of these pairs
abbrev pub IsDict : State → ℕ → ℕ → List (Datum × Datum) → Type 0
IsDict s home number ps = content_at s.store home number ≡ Some (pairs ps)

-- the cell of that number holds a rule with these attributes
abbrev pub IsRule : State → ℕ → ℕ → Class → Type 0
IsRule s home number class = content_at s.store home number ≡ Some (rule class)

-- `a += b` ran, where `a` is the list of that number, with the elements `xs`, and `b` has the elements `more`
pub record IsAddedInPlace (home number : ℕ) (xs more : List Datum) (answer : Datum) (s t : State) : Type 0 where
  pub known : IsList s home number xs
  pub added : Datum
  pub elements : elements_in s.store added ≡ Ok more
  pub run : augment op.Add (cell home number) added s ≡ done answer t

-- the answer is the same list, which has these values more
pub record StaysTheSameList (home number : ℕ) (xs more : List Datum) (answer : Datum) (s t : State) : Type 0 where
  pub same : answer ≡ cell home number
  pub values : IsList t home number (xs ++ more)
