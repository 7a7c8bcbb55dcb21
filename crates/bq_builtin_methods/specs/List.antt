-- The methods of lists (Starlark, "Built-in methods": "list·append" and so on), as equations on the list of their values.
use Rattle.std.specs.Prelude.{ℕ, ◌+◌, ℤ, pos, List, [], ◌∷◌, ◌++◌, length, slice_get, insert, remove, Option, Some, None, Result, Ok, Err}
use Rattle.bq_base.specs.declared.fault.EvalFault.{EvalFault}
use Rattle.bq_base.specs.declared.fault.EvalFault.TheVariants.{WrongType, Index, BadValue}
use Rattle.bq_builtin_strings.specs.Length.{within}
use Rattle.bq_builtin_strings.specs.Place.{clamped, indexed}
use Rattle.bq_value.specs.Datum.{Datum, none, int}
use Rattle.bq_value.specs.Contents.{items}
use Rattle.bq_value.specs.Cells.{StoreView}
use Rattle.bq_builtin_machine.specs.State.{State}
use Rattle.bq_builtin_machine.specs.Answer.{and_then}
use Rattle.bq_builtin_machine.specs.Action.{Action, ◌>>=◌, ◌>>◌, stop, given, look}
use Rattle.bq_builtin_machine.specs.Cells.{Change, changing, may_change, content}
use Rattle.bq_builtin_machine.specs.Iteration.{elements_in}
use Rattle.bq_builtin_machine.specs.Machine.{walk}
use Rattle.bq_builtin_methods.specs.declared.list.ListEdit.{ListEdit}
use Rattle.bq_builtin_methods.specs.declared.list.ListEdit.TheVariants as edit
use Rattle.bq_builtin_methods.specs.Search.{found_between}
use Rattle.bq_builtin_methods.specs.Arguments.{one_to_three, optional_integer, no_argument, one_argument, two_arguments, optional_argument, integer, index_or_last}

-- a change of a list: an answer, and the list then
abbrev pub ListChange : Type 0
ListChange = List Datum → Result (Datum × List Datum) EvalFault

-- a change of a list, of a cell that has to hold one
unfoldable pub on_items : ListChange → Change Datum
on_items f (items xs) = elim (f xs) [ Ok r ↦ Ok (r.0, items r.1) | Err kind ↦ Err kind ]
on_items f _ = Err WrongType

-- `append(v)`: one element more, at the end (F54)
unfoldable pub appended : Datum → ListChange
appended v xs = and_then (within (length xs + 1)) (λ n. Ok (none, xs ++ v ∷ []))

-- `extend(x)`: the elements of `x` at the end (F54)
unfoldable pub extended : List Datum → ListChange
extended ys xs = and_then (within (length xs + length ys)) (λ n. Ok (none, xs ++ ys))

-- `insert(i, v)`: before the element of index `i`; past an end, at that end (F54)
unfoldable pub inserted : ℤ → Datum → ListChange
inserted i v xs = and_then (within (length xs + 1)) (λ n. Ok (none, insert xs (clamped (length xs) i) v))

-- the element of that place is taken out, if there is one, and is the answer
abbrev pub taken : ℕ → ListChange
taken at xs = elim (slice_get xs at) [ Some v ↦ Ok (v, remove xs at) | None ↦ Err Index ]

-- `pop(i)`: the element of index `i` is taken out (F43)
unfoldable pub popped : ℤ → ListChange
popped i xs = and_then (indexed (length xs) i) (λ at. taken at xs)

-- `clear()`
unfoldable pub cleared : ListChange
cleared xs = Ok (none, [])

-- the element of that place is taken out
unfoldable pub dropped : ℕ → ListChange
dropped at xs = elim (slice_get xs at) [ Some v ↦ Ok (none, remove xs at) | None ↦ Err Index ]

-- which change of a list each of the six edits is
abbrev pub edited : ListEdit → ListChange
edited (edit.Append v) = appended v
edited (edit.Extend ys) = extended ys
edited (edit.Insert i v) = inserted i v
edited (edit.Pop i) = popped i
edited edit.Clear = cleared
edited (edit.Drop at) = dropped at

-- ---- calls that change a list: the arguments are read first (F52, F40), then the list may be changed or not (F47, F48)

-- which change a call makes, by what lists and dicts hold and the positional arguments
abbrev pub ListCall : Type 0
ListCall = StoreView → List Datum → Result ListChange EvalFault

-- the change of a list that a call makes
abbrev pub list_changed : ListCall → ℕ → ℕ → List Datum → Action State Datum
list_changed call home number args = look (λ s. call s.store args) >>= λ change. changing home number (on_items change)

-- `l.append(x)`
unfoldable pub append : ListCall
append store args = and_then (one_argument args) (λ v. Ok (appended v))

-- `l.clear()`
unfoldable pub clear : ListCall
clear store args = and_then (no_argument args) (λ _. Ok cleared)

-- `l.extend(x)`: the elements of `x` are read before the list is changed, so a list may be extended by itself
unfoldable pub extend : ListCall
extend store args = and_then (one_argument args) (λ x. and_then (elements_in store x) (λ ys. Ok (extended ys)))

-- `l.insert(i, x)`
unfoldable pub insert_at : ListCall
insert_at store args = and_then (two_arguments args) (λ r. and_then (integer r.0) (λ i. Ok (inserted i r.1)))

-- `l.pop(i)`
unfoldable pub pop : ListCall
pop store args = and_then (optional_argument args) (λ o. and_then (index_or_last o) (λ i. Ok (popped i)))

-- ---- methods that look for an element

-- the values of a list
unfoldable pub list_in : ℕ → ℕ → Action State (List Datum)
list_in home number = content home number >>= λ c. given (elim c [ items xs ↦ Ok xs | _ ↦ Err WrongType ])

-- where a list has a value between two indices first
unfoldable pub find : ℕ → ℕ → Datum → Option ℤ → Option ℤ → Action State (Option ℕ)
find home number v start end = list_in home number >>= λ xs. walk (λ store n. found_between store n xs v start end)

-- the place that was found, as an integer (F57 where none was; F54 past the longest list, which none is)
unfoldable pub place_value : Option ℕ → Result Datum EvalFault
place_value o = and_then (elim o [ Some at ↦ within at | None ↦ Err BadValue ]) (λ n. Ok (int (pos n)))

-- `index(v, start, end)`: the place of the first element that is equal to `v`
unfoldable pub index : ℕ → ℕ → List Datum → Action State Datum
index home number args =
    given (one_to_three args) >>= λ r. given (optional_integer r.1.0) >>= λ start. given (optional_integer r.1.1) >>= λ end.
    find home number r.0 start end >>= λ at. given (place_value at)

-- `l.remove(x)`, by the place where the value was found
abbrev pub drop_at : ℕ → ℕ → Option ℕ → Action State Datum
drop_at home number (Some at) = changing home number (on_items (dropped at))
drop_at home number None = stop BadValue

-- `remove(v)`: the first element that is equal to `v` is taken out (F57). A list that may not be changed is a fault before any
-- element is looked at.
unfoldable pub remove_value : ℕ → ℕ → List Datum → Action State Datum
remove_value home number args =
    given (one_argument args) >>= λ v. list_in home number >>= λ xs. may_change home number >> (find home number v None None >>= λ at. drop_at home number at)
