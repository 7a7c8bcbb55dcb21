-- What changes a list or dict in place (Starlark, "Augmented assignments", "Assignments").
use Rattle.std.specs.Prelude.{ℕ, ℤ, List, length, set, Ok, Err}
use Rattle.bq_base.specs.declared.fault.EvalFault.TheVariants.{WrongType}
use Rattle.bq_parse_grammar.specs.declared.tree.Operator.{Operator}
use Rattle.bq_parse_grammar.specs.declared.tree.Operator.TheVariants as op
use Rattle.bq_value.specs.Datum.{Datum, cell}
use Rattle.bq_value.specs.Contents.{Contents, items, pairs, rule}
use Rattle.bq_value.specs.Pairs.{put}
use Rattle.bq_builtin_strings.specs.Place.{indexed}
use Rattle.bq_builtin_machine.specs.State.{State}
use Rattle.bq_builtin_machine.specs.Action.{Action, ◌>>=◌, ◌>>◌, pure, stop, given, look}
use Rattle.bq_builtin_machine.specs.Cells.{Change, content, may_change, changing}
use Rattle.bq_builtin_machine.specs.Iteration.{elements}
use Rattle.bq_builtin_machine.specs.Machine.{key}
use Rattle.bq_builtin_operators.specs.Operand.{int_of, list_in, dict_in}
use Rattle.bq_builtin_machine.specs.Answer.{and_then}
use Rattle.bq_builtin_operators.specs.Sequence.{limited, joined}
use Rattle.bq_builtin_operators.specs.Sum.{sum}
use Rattle.bq_builtin_operators.specs.Union.{put_all, union}
use Rattle.bq_builtin_operators.specs.Operate.{binary}

-- ---- what a list or dict holds then

-- these values after those that are there
unfoldable pub list_extended : List Datum → Change (Unit {0})
list_extended more (items xs) = and_then (joined xs more) (λ ys. Ok (tt, items ys))
list_extended more _ = Err WrongType

-- these pairs put in turn
unfoldable pub dict_united : List (Datum × Datum) → Change (Unit {0})
dict_united more (pairs ps) = and_then (limited (put_all ps more)) (λ qs. Ok (tt, pairs qs))
dict_united more _ = Err WrongType

-- another value at an index (F43)
unfoldable pub element_set : ℤ → Datum → Change (Unit {0})
element_set i v (items xs) = and_then (indexed (length xs) i) (λ k. Ok (tt, items (set xs k v)))
element_set i v _ = Err WrongType

-- another value of a key, or a new pair (F54)
unfoldable pub pair_put : Datum → Datum → Change (Unit {0})
pair_put k v (pairs ps) = and_then (limited (put k v ps)) (λ qs. Ok (tt, pairs qs))
pair_put k v _ = Err WrongType

-- ---- the operators

-- `a += b`: a list stays the same list, and gets the elements of `b`, which are read before it is changed
unfoldable pub augment_sum : Datum → Datum → Action State Datum
augment_sum (cell home number) b =
    look (λ s. list_in s.store (cell home number)) >>= λ xs. elements b >>= λ more. changing home number (list_extended more) >>= λ u. pure (cell home number)
augment_sum a b = sum a b

-- `a |= b`: a dict stays the same dict, and gets the pairs of the dict `b`
unfoldable pub augment_union : Datum → Datum → Action State Datum
augment_union (cell home number) b =
    look (λ s. dict_in s.store (cell home number)) >>= λ ps. look (λ s. dict_in s.store b) >>= λ more. changing home number (dict_united more) >>= λ u. pure (cell home number)
augment_union a b = union a b

-- `a op= b`
unfoldable pub augment : Operator → Datum → Datum → Action State Datum
augment op.Add a b = augment_sum a b
augment op.BitOr a b = augment_union a b
augment operator a b = binary operator a b

-- a list by an index, a dict by a key; a rule is neither
abbrev pub set_in : ℕ → ℕ → Datum → Datum → Contents → Action State (Unit {0})
set_in home number at v (items xs) = given (int_of at) >>= λ i. changing home number (element_set i v)
set_in home number at v (pairs ps) = may_change home number >> (key at >>= λ k. changing home number (pair_put k v))
set_in home number at v (rule c) = stop WrongType

-- `x[at] = v`, of a list or a dict
unfoldable pub set_item : ℕ → ℕ → Datum → Datum → Action State (Unit {0})
set_item home number at v = content home number >>= λ c. set_in home number at v c

-- `container[at] = v`
unfoldable pub set_index : Datum → Datum → Datum → Action State (Unit {0})
set_index (cell home number) at v = set_item home number at v
set_index _ at v = stop WrongType
