-- The methods of lists and dicts, and the function `dict`, have numbers of steps and outcomes of their own.
use Rattle.std.proofs.Common.{ℕ, ℤ, cond, List, [], ◌∷◌, ◌++◌, map, Option, Some, None, Ok, Err, refl}
use Rattle.bq_base.specs.declared.fault.EvalFault.TheVariants as f
use Rattle.bq_value.specs.Contents.{pairs}
use Rattle.bq_value.specs.Datum.{Datum, none, or_none}
use Rattle.bq_value.specs.Pairs.{found, keys}
use Rattle.bq_builtin_machine.specs.Action.{◌>>=◌, ◌>>◌, pure, given}
use Rattle.bq_builtin_machine.specs.Args.{Passed}
use Rattle.bq_builtin_machine.specs.Binding.{bind}
use Rattle.bq_builtin_machine.specs.Cells.{content, may_change, changing, new_list, new_dict}
use Rattle.bq_builtin_machine.specs.Iteration.{elements}
use Rattle.bq_builtin_machine.specs.Machine.{key}
use Rattle.bq_builtin_operators.specs.InPlace.{dict_united}
use Rattle.bq_builtin_operators.specs.Sequence.{limited}
use Rattle.bq_builtin_operators.specs.Union.{put_all}
use Rattle.bq_builtin_methods.specs.Arguments.{no_argument, one_argument, one_or_two, one_to_three, optional_integer}
use Rattle.bq_builtin_methods.specs.Dict as dict
use Rattle.bq_builtin_methods.specs.Dict.{on_pairs, pairs_in, pair_tuple, or_value, taken_out, with_default, key_to_change}
use Rattle.bq_builtin_methods.specs.List as list
use Rattle.bq_builtin_methods.specs.List.{on_items, dropped, list_in, find, place_value, drop_at}
use Rattle.bq_builtin_methods.specs.PairsGiven.{Pairs, GivenView, take_elements, read_by, read, pairs_signature, first_value, nothing_read, read_optional, pairs_given, make_key, make_keys, all_pairs}
use Rattle.bq_builtin_methods.specs.PairsGiven as given_pairs
use Rattle.bq_builtin_methods.specs.Search.{found_between}
use Rattle.bq_builtin_methods.proofs.Cases.{dict_of, list_of}
use Rattle.bq_builtin_methods.specs.Methods.{list_methods, dict_methods}
use Rattle.bq_builtin_laws.specs.Steps.Steps.{machine}
use Rattle.bq_builtin_laws.proofs.Steps.Owning.{here_at_state}
use Rattle.bq_builtin_laws.specs.Steps.Laws.{Own}
use Rattle.bq_builtin_laws.proofs.Steps.Machine.{pure_owns, stop_owns, given_owns, bind_owns, then_owns, look_owns, walk_owns, new_owns, content_owns, may_owns, changing_owns, elements_owns}
use Rattle.bq_builtin_laws.proofs.Steps.Operators.{key_owns, united_spares}
use Rattle.bq_builtin_laws.proofs.Steps.Rows.{new_list_owns, items_spare, pairs_spare, ActionsOwn}
use Rattle.bq_builtin_laws.proofs.Steps.Walks.{found_takes}

new_dict_owns : (ps : List (Datum × Datum)) → Own (new_dict ps)
unfolding new_dict
new_dict_owns ps = new_owns (pairs ps)

-- ---- lists

list_in_owns : (home number : ℕ) → Own (list_in home number)
unfolding list_in
list_in_owns home number = bind_owns (content home number) (λ c. given (list_of c)) (content_owns home number) (λ c. given_owns (list_of c))

find_owns : (home number : ℕ) (v : Datum) (start end : Option ℤ) → Own (find home number v start end)
unfolding find
find_owns home number v start end =
    bind_owns (list_in home number) _ (list_in_owns home number) (λ xs. walk_owns (λ store n. found_between store n xs v start end) (λ store. found_takes store xs v start end))

index_owns : (home number : ℕ) (args : List Datum) → Own (list.index home number args)
unfolding list.index
index_owns home number args =
    bind_owns (given (one_to_three args)) _ (given_owns (one_to_three args))
    (λ r. bind_owns (given (optional_integer r.1.0)) _ (given_owns (optional_integer r.1.0))
    (λ start. bind_owns (given (optional_integer r.1.1)) _ (given_owns (optional_integer r.1.1))
    (λ end. bind_owns (find home number r.0 start end) _ (find_owns home number r.0 start end) (λ at. given_owns (place_value at)))))

drop_owns : (home number : ℕ) (at : Option ℕ) → Own (drop_at home number at)
drop_owns home number (Some at) = changing_owns home number (on_items (dropped at)) (items_spare (dropped at))
drop_owns home number None = stop_owns Datum f.BadValue

remove_owns : (home number : ℕ) (args : List Datum) → Own (list.remove_value home number args)
unfolding list.remove_value
remove_owns home number args =
    bind_owns (given (one_argument args)) _ (given_owns (one_argument args))
    (λ v. bind_owns (list_in home number) _ (list_in_owns home number)
    (λ xs. then_owns (may_change home number) _ (may_owns home number)
    (bind_owns (find home number v None None) _ (find_owns home number v None None) (λ at. drop_owns home number at))))

-- ---- pairs that are given

read_by_owns : (o : Option Pairs) (v : Datum) (g : GivenView) → Own (read_by o v g)
read_by_owns (Some ps) v g = pure_owns _
read_by_owns None v g = bind_owns (elements v) _ (elements_owns v) (λ xs. look_owns (λ st. take_elements st xs g))

read_owns : (v : Datum) (g : GivenView) → Own (read v g)
unfolding read
read_owns v g u = here_at_state machine (read v g) (read_by (given_pairs.dict_of u.store v) v g) u (λ n. refl) refl (read_by_owns (given_pairs.dict_of u.store v) v g u)

optional_owns : (o : Option Datum) (g : GivenView) → Own (read_optional o g)
optional_owns None g = pure_owns g
optional_owns (Some v) g = read_owns v g

given_pairs_own : (args : Passed) → Own (pairs_given args)
unfolding pairs_given
given_pairs_own args =
    bind_owns (given (bind pairs_signature args)) _ (given_owns (bind pairs_signature args)) (λ b. optional_owns (first_value b.values) (nothing_read b.keywords))

make_key_owns : (q : Datum × Datum) (made : Pairs) → Own (make_key q made)
unfolding make_key
make_key_owns q made = bind_owns (key q.0) _ (key_owns q.0) (λ k. pure_owns _)

make_keys_own : (ps : List (Datum × Datum)) (made : Pairs) → Own (make_keys ps made)
make_keys_own [] made = pure_owns made
make_keys_own (q ∷ ps) made = bind_owns (make_key q made) (λ now. make_keys ps now) (make_key_owns q made) (λ now. make_keys_own ps now)

all_pairs_own : (g : GivenView) → Own (all_pairs g)
unfolding all_pairs
all_pairs_own g = bind_owns (make_keys g.unkeyed g.keyed) _ (make_keys_own g.unkeyed g.keyed) (λ ps. given_owns (cond g.all_have_two (Ok (ps ++ g.keywords)) (Err f.BadValue)))

-- ---- dicts

pairs_in_owns : (home number : ℕ) → Own (pairs_in home number)
unfolding pairs_in
pairs_in_owns home number = bind_owns (content home number) (λ c. given (dict_of c)) (content_owns home number) (λ c. given_owns (dict_of c))

get_owns : (home number : ℕ) (args : List Datum) → Own (dict.get home number args)
unfolding dict.get
get_owns home number args =
    bind_owns (given (one_or_two args)) _ (given_owns (one_or_two args))
    (λ r. bind_owns (key r.0) _ (key_owns r.0) (λ q. bind_owns (pairs_in home number) _ (pairs_in_owns home number) (λ ps. pure_owns (or_value (or_none r.1) (found q ps)))))

pairs_listed : (home number : ℕ) (args : List Datum) (of : Pairs → List Datum) → Own (given (no_argument args) >> (pairs_in home number >>= λ ps. new_list (of ps)))
pairs_listed home number args of =
    then_owns (given (no_argument args)) _ (given_owns (no_argument args)) (bind_owns (pairs_in home number) (λ ps. new_list (of ps)) (pairs_in_owns home number) (λ ps. new_list_owns (of ps)))

items_own : (home number : ℕ) (args : List Datum) → Own (dict.dict_items home number args)
unfolding dict.dict_items
items_own home number args = pairs_listed home number args (λ ps. map pair_tuple ps)

keys_own : (home number : ℕ) (args : List Datum) → Own (dict.dict_keys home number args)
unfolding dict.dict_keys
keys_own home number args = pairs_listed home number args keys

values_own : (home number : ℕ) (args : List Datum) → Own (dict.dict_values home number args)
unfolding dict.dict_values
values_own home number args = pairs_listed home number args (λ ps. map (λ q. q.1) ps)

to_change_owns : (home number : ℕ) (k : Datum) → Own (key_to_change home number k)
unfolding key_to_change
to_change_owns home number k =
    bind_owns (pairs_in home number) (λ ps. may_change home number >> key k) (pairs_in_owns home number) (λ ps. then_owns (may_change home number) (key k) (may_owns home number) (key_owns k))

dict_pop_owns : (home number : ℕ) (args : List Datum) → Own (dict.pop home number args)
unfolding dict.pop
dict_pop_owns home number args =
    bind_owns (given (one_or_two args)) _ (given_owns (one_or_two args))
    (λ r. bind_owns (key_to_change home number r.0) _ (to_change_owns home number r.0) (λ q. changing_owns home number (on_pairs (taken_out q r.1)) (pairs_spare (taken_out q r.1))))

setdefault_owns : (home number : ℕ) (args : List Datum) → Own (dict.setdefault home number args)
unfolding dict.setdefault
setdefault_owns home number args =
    bind_owns (given (one_or_two args)) _ (given_owns (one_or_two args))
    (λ r. bind_owns (key_to_change home number r.0) _ (to_change_owns home number r.0) (λ q. changing_owns home number (on_pairs (with_default q (or_none r.1))) (pairs_spare (with_default q (or_none r.1)))))

update_owns : (home number : ℕ) (args : Passed) → Own (dict.update home number args)
unfolding dict.update
update_owns home number args =
    bind_owns (pairs_given args) _ (given_pairs_own args)
    (λ g. then_owns (may_change home number) _ (may_owns home number)
    (bind_owns (all_pairs g) _ (all_pairs_own g)
    (λ ps. then_owns (changing home number (dict_united ps)) (pure none) (changing_owns home number (dict_united ps) (united_spares ps)) (pure_owns none))))

pub dict_made_owns : (args : Passed) → Own (dict.dict_made args)
unfolding dict.dict_made
dict_made_owns args =
    bind_owns (pairs_given args) _ (given_pairs_own args)
    (λ g. bind_owns (all_pairs g) _ (all_pairs_own g)
    (λ ps. bind_owns (given (limited (put_all [] ps))) (λ qs. new_dict qs) (given_owns (limited (put_all [] ps))) (λ qs. new_dict_owns qs)))

-- ---- the actions of lists and dicts, in the order of their rows

pub lists_own : (home number : ℕ) → ActionsOwn (map (λ row. row.1.1 (home, number)) list_methods)
unfolding list_methods
lists_own home number = (λ args. index_owns home number args.positional, (λ args. remove_owns home number args.positional, tt))

pub dicts_own : (home number : ℕ) → ActionsOwn (map (λ row. row.1.1 (home, number)) dict_methods)
unfolding dict_methods
dicts_own home number = (
  λ args. get_owns home number args.positional,
  (
    λ args. items_own home number args.positional,
    (
      λ args. keys_own home number args.positional,
      (
        λ args. dict_pop_owns home number args.positional,
        (λ args. setdefault_owns home number args.positional, (update_owns home number, (λ args. values_own home number args.positional, tt))),
      ),
    ),
  ),
)
