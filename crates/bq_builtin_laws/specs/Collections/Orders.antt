-- In which order what changes a list or dict is refused (Starlark, "Built-in methods", "Assignments"; ours: the order). What the
-- arguments are comes first, then whether the list or dict may be changed, then what is done with it.
use Rattle.std.specs.Prelude.{◌≡◌, ℕ, ◌+◌, not, nat_le, ◌==◌, List, [], ◌∷◌, length, Option, None, Ok}
use Rattle.bq_base.specs.declared.fault.EvalFault.TheVariants.{Frozen, Iterating, TooLong}
use Rattle.bq_value.specs.Contents.{items, pairs}
use Rattle.bq_value.specs.Datum.{Datum, or_none}
use Rattle.bq_builtin_machine.specs.Action.{◌>>=◌}
use Rattle.bq_builtin_machine.specs.Args.{Passed}
use Rattle.bq_builtin_machine.specs.Cells.{is_walked, changing}
use Rattle.bq_builtin_machine.specs.Iteration.{elements_in}
use Rattle.bq_builtin_machine.specs.Machine.{key}
use Rattle.bq_builtin_machine.specs.State.{State}
use Rattle.bq_builtin_strings.specs.Length.{max_len}
use Rattle.bq_builtin_operators.specs.InPlace.{element_set, pair_put, dict_united}
use Rattle.bq_builtin_operators.specs.Operand.{int_of}
use Rattle.bq_builtin_methods.specs.Arguments.{one_or_two}
use Rattle.bq_builtin_methods.specs.Dict.{setdefault, first_out, taken_out, with_default}
use Rattle.bq_builtin_methods.specs.List.{popped, find, drop_at}
use Rattle.bq_builtin_methods.specs.PairsGiven.{Pairs, pairs_given, all_pairs}
use Rattle.bq_builtin_machine.specs.Refusals.{Check, when, fault_of, fault_in, fault_then, fault_after, IsRefusedForFirst}

-- ---- checks

-- F47: it is of another module
abbrev pub frozen : State → ℕ → Check
frozen s home = when (not (home == s.store.own)) Frozen

-- F48: a walk over it goes on
abbrev pub walked : State → ℕ → ℕ → Check
walked s home number = when (is_walked home number s.walks) Iterating

-- F54: more elements than a list or dict may have
abbrev pub too_long : ℕ → Check
too_long n = when (not (nat_le n max_len)) TooLong

-- F40: an index is an integer
abbrev pub not_integer : Datum → Check
not_integer at = fault_in (int_of at)

-- F40: only an iterable has elements
abbrev pub not_iterable : State → Datum → Check
not_iterable s x = fault_in (elements_in s.store x)

-- F45, F53, F55: not every value makes a key
abbrev pub no_key : State → Datum → Check
no_key s k = fault_of (key k s)

-- ---- lists

-- an element to a list of `xs`: F47, F48, then F54
abbrev pub appending : State → ℕ → ℕ → List Datum → List Check
appending s home number xs = frozen s home ∷ walked s home number ∷ too_long (length xs + 1) ∷ []

-- all elements of a list, or all pairs of a dict: F47, then F48
abbrev pub clearing : State → ℕ → ℕ → List Check
clearing s home number = frozen s home ∷ walked s home number ∷ []

-- the elements of `x` to a list of `xs`: F40 where `x` has none, F47, F48, then F54
abbrev pub extending : State → ℕ → ℕ → List Datum → Datum → List Check
extending s home number xs x = not_iterable s x ∷ frozen s home ∷ walked s home number ∷ fault_then (elements_in s.store x) (λ ys. too_long (length xs + length ys)) ∷ []

-- an element at an index of a list of `xs`: F40 where `at` is no integer, F47, F48, then F54
abbrev pub inserting : State → ℕ → ℕ → List Datum → Datum → List Check
inserting s home number xs at = not_integer at ∷ frozen s home ∷ walked s home number ∷ too_long (length xs + 1) ∷ []

-- that there is no element of the index, F43, comes last
abbrev pub popping : State → ℕ → ℕ → List Datum → Datum → List Check
popping s home number xs at = not_integer at ∷ frozen s home ∷ walked s home number ∷ fault_then (int_of at) (λ i. fault_in (popped i xs)) ∷ []

-- before any element is looked at (F53, F55), and before none is found (F57)
abbrev pub removing : State → ℕ → ℕ → Datum → List Check
removing s home number v = frozen s home ∷ walked s home number ∷ fault_of ((find home number v None None >>= λ at. drop_at home number at) s) ∷ []

-- `list[at] = v`; F43 comes last
abbrev pub setting_element : State → ℕ → ℕ → List Datum → Datum → Datum → List Check
setting_element s home number xs at v = not_integer at ∷ frozen s home ∷ walked s home number ∷ fault_then (int_of at) (λ i. fault_in (element_set i v (items xs))) ∷ []

-- ---- dicts

-- that the key isn't there, F44, comes last
abbrev pub taking_out : State → ℕ → ℕ → List (Datum × Datum) → Datum → Option Datum → List Check
taking_out s home number ps k d = frozen s home ∷ walked s home number ∷ no_key s k ∷ fault_after (key k s) (λ q. fault_in (taken_out q d ps)) ∷ []

-- that there is no pair, F44, comes last
abbrev pub taking_first : State → ℕ → ℕ → List (Datum × Datum) → List Check
taking_first s home number ps = frozen s home ∷ walked s home number ∷ fault_in (first_out ps) ∷ []

-- F54 comes last
abbrev pub setting_default : State → ℕ → ℕ → List (Datum × Datum) → Datum → Datum → List Check
setting_default s home number ps k d = frozen s home ∷ walked s home number ∷ no_key s k ∷ fault_after (key k s) (λ q. fault_in (with_default q d ps)) ∷ []

-- `setdefault` is refused in this order; its arguments are a key and, if there is a second one, the default, which is else `None`
abbrev pub SetsDefaultInOrder : ℕ → ℕ → Pairs → List Datum → State → Type 0
SetsDefaultInOrder home number ps args s =
    (k : Datum) (o : Option Datum) → one_or_two args ≡ Ok (k, o) → IsRefusedForFirst (setdefault home number args s) (setting_default s home number ps k (or_none o))

-- the arguments are read (F52, F40); that their keys are made, and that each pair has two parts (F57), comes after F47 and F48
abbrev pub updating : State → ℕ → ℕ → Passed → List Check
updating s home number args =
    fault_of (pairs_given args s) ∷ frozen s home ∷ walked s home number ∷ fault_after (pairs_given args s) (λ g. fault_of ((all_pairs g >>= λ ps. changing home number (dict_united ps)) s)) ∷ []

-- `dict[k] = v`; F54 comes last
abbrev pub setting_pair : State → ℕ → ℕ → List (Datum × Datum) → Datum → Datum → List Check
setting_pair s home number ps k v = frozen s home ∷ walked s home number ∷ no_key s k ∷ fault_after (key k s) (λ q. fault_in (pair_put q v (pairs ps))) ∷ []
