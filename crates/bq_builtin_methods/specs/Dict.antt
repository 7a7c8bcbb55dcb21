-- The methods of dicts (Starlark, "Built-in methods": "dict·get" and so on), as equations on the list of their pairs.
use Rattle.std.specs.Prelude.{ℕ, ◌+◌, List, [], ◌∷◌, map, length, Option, Some, None, Result, Ok, Err}
use Rattle.bq_base.specs.declared.fault.EvalFault.{EvalFault}
use Rattle.bq_base.specs.declared.fault.EvalFault.TheVariants.{WrongType, NoKey}
use Rattle.bq_builtin_strings.specs.Length.{within}
use Rattle.bq_value.specs.Datum.{Datum, none, tuple, end, datum, or_none}
use Rattle.bq_value.specs.Contents.{items, pairs, rule}
use Rattle.bq_value.specs.Pairs.{found, put, without, keys}
use Rattle.bq_value.specs.Cells.{StoreView}
use Rattle.bq_builtin_machine.specs.State.{State}
use Rattle.bq_builtin_machine.specs.Action.{Action, ◌>>=◌, ◌>>◌, pure, given, look}
use Rattle.bq_builtin_machine.specs.Args.{Passed}
use Rattle.bq_builtin_machine.specs.Cells.{Change, changing, may_change, content, new_list, new_dict}
use Rattle.bq_builtin_machine.specs.Machine.{key}
use Rattle.bq_builtin_operators.specs.Sequence.{limited}
use Rattle.bq_builtin_operators.specs.Union.{put_all}
use Rattle.bq_builtin_operators.specs.InPlace.{dict_united}
use Rattle.bq_builtin_methods.specs.declared.dict.DictEdit.{DictEdit}
use Rattle.bq_builtin_methods.specs.declared.dict.DictEdit.TheVariants as edit
use Rattle.bq_builtin_methods.specs.Arguments.{no_argument, one_or_two}
use Rattle.bq_builtin_machine.specs.Answer.{and_then}
use Rattle.bq_builtin_methods.specs.PairsGiven.{Pairs, pairs_given, all_pairs}

-- a change of a dict: an answer, and the dict then
abbrev pub DictChange : Type 0
DictChange = Pairs → Result (Datum × Pairs) EvalFault

-- a change of a dict, of a cell that has to hold one
unfoldable pub on_pairs : DictChange → Change Datum
on_pairs f (pairs ps) = elim (f ps) [ Ok r ↦ Ok (r.0, pairs r.1) | Err kind ↦ Err kind ]
on_pairs f (items xs) = Err WrongType
on_pairs f (rule c) = Err WrongType

-- the pairs of a dict
unfoldable pub pairs_in : ℕ → ℕ → Action State Pairs
pairs_in home number = content home number >>= λ c. given (elim c [ pairs ps ↦ Ok ps | _ ↦ Err WrongType ])

-- `(key, value)`
abbrev pub pair_tuple : Datum × Datum → Datum
pair_tuple p = tuple (datum p.0 (datum p.1 end))

-- a value, `d` where it is missing
abbrev pub or_value : Datum → Option Datum → Datum
or_value d (Some v) = v
or_value d None = d

-- `clear`: no pair is left
unfoldable pub emptied : DictChange
emptied ps = Ok (none, [])

-- what is the answer where a key isn't there: nothing, which is F44, or a value
abbrev pub or_no_key : Option Datum → Pairs → Result (Datum × Pairs) EvalFault
or_no_key (Some d) ps = Ok (d, ps)
or_no_key None ps = Err NoKey

-- `pop(k)`, `pop(k, d)`: the key's pair is taken out, and its value is the answer; where the key isn't there, `d`, or F44
unfoldable pub taken_out : Datum → Option Datum → DictChange
taken_out k d ps = elim (found k ps) [ Some v ↦ Ok (v, without k ps) | None ↦ or_no_key d ps ]

-- `popitem()`: the first pair is taken out, and is the answer (F44)
unfoldable pub first_out : DictChange
first_out [] = Err NoKey
first_out (p ∷ ps) = Ok (pair_tuple p, ps)

-- `setdefault(k, d)`: the key's value is the answer; a key that isn't there gets the value `d` (F54)
unfoldable pub with_default : Datum → Datum → DictChange
with_default k d ps = elim (found k ps) [ Some v ↦ Ok (v, ps) | None ↦ and_then (within (length ps + 1)) (λ n. Ok (d, put k d ps)) ]

-- which change of a dict each of the four edits is
abbrev pub edited : DictEdit → DictChange
edited edit.Clear = emptied
edited (edit.Pop k d) = taken_out k d
edited edit.PopItem = first_out
edited (edit.SetDefault k d) = with_default k d

-- ---- calls: the arguments are read first (F52), then the dict may be changed or not (F47, F48), then the key is made (F45, F53, F55)

-- which change a call makes, by what lists and dicts hold and the positional arguments
abbrev pub DictCall : Type 0
DictCall = StoreView → List Datum → Result DictChange EvalFault

-- the change of a dict that a call makes
abbrev pub dict_changed : DictCall → ℕ → ℕ → List Datum → Action State Datum
dict_changed call home number args = look (λ s. call s.store args) >>= λ change. changing home number (on_pairs change)

-- `d.clear()`
unfoldable pub clear : DictCall
clear store args = and_then (no_argument args) (λ _. Ok emptied)

-- `d.get(key, default)`
unfoldable pub get : ℕ → ℕ → List Datum → Action State Datum
get home number args = given (one_or_two args) >>= λ r. key r.0 >>= λ q. pairs_in home number >>= λ ps. pure (or_value (or_none r.1) (found q ps))

-- `d.items()`: a new list of the pairs, as tuples
unfoldable pub dict_items : ℕ → ℕ → List Datum → Action State Datum
dict_items home number args = given (no_argument args) >> (pairs_in home number >>= λ ps. new_list (map pair_tuple ps))

-- `d.keys()`: a new list of the keys
unfoldable pub dict_keys : ℕ → ℕ → List Datum → Action State Datum
dict_keys home number args = given (no_argument args) >> (pairs_in home number >>= λ ps. new_list (keys ps))

-- `d.values()`: a new list of the values
unfoldable pub dict_values : ℕ → ℕ → List Datum → Action State Datum
dict_values home number args = given (no_argument args) >> (pairs_in home number >>= λ ps. new_list (map (λ p. p.1) ps))

-- a key by which a dict is changed
unfoldable pub key_to_change : ℕ → ℕ → Datum → Action State Datum
key_to_change home number k = pairs_in home number >>= λ ps. may_change home number >> key k

-- `d.pop(key, default)`
unfoldable pub pop : ℕ → ℕ → List Datum → Action State Datum
pop home number args = given (one_or_two args) >>= λ r. key_to_change home number r.0 >>= λ q. changing home number (on_pairs (taken_out q r.1))

-- `d.popitem()`: the first pair, taken out
unfoldable pub popitem : DictCall
popitem store args = and_then (no_argument args) (λ _. Ok first_out)

-- `d.setdefault(key, default)`
unfoldable pub setdefault : ℕ → ℕ → List Datum → Action State Datum
setdefault home number args = given (one_or_two args) >>= λ r. key_to_change home number r.0 >>= λ q. changing home number (on_pairs (with_default q (or_none r.1)))

-- `update(pairs, **keywords)`: the pairs that are given are put in turn, as by `|=`
unfoldable pub update : ℕ → ℕ → Passed → Action State Datum
update home number args =
    pairs_given args >>= λ g. may_change home number >> (all_pairs g >>= λ ps. changing home number (dict_united ps) >> pure none)

-- the function `dict(pairs, **keywords)`: a new dict, into which the pairs that are given are put in turn
unfoldable pub dict_made : Passed → Action State Datum
dict_made args = pairs_given args >>= λ g. all_pairs g >>= λ ps. given (limited (put_all [] ps)) >>= λ qs. new_dict qs
