-- What is left to show of a table of functions or methods: what gives a value, lists the values of a new list, or changes a list or dict takes
-- no steps of its own.
use Rattle.std.proofs.Common.{ℕ, List, [], ◌∷◌, Result}
use Rattle.std.specs.List.{AllByRecursion}
use Rattle.bq_base.specs.declared.fault.EvalFault.{EvalFault}
use Rattle.bq_value.specs.Cells.{StoreView}
use Rattle.bq_value.specs.Contents.{items}
use Rattle.bq_value.specs.Datum.{Datum}
use Rattle.bq_builtin_machine.specs.Action.{◌>>=◌, look}
use Rattle.bq_builtin_machine.specs.Args.{Passed}
use Rattle.bq_builtin_machine.specs.Cells.{changing, new_list}
use Rattle.bq_builtin_methods.specs.Calling.{Calling, gives, lists, changes_list, changes_dict, does, called}
use Rattle.bq_builtin_methods.specs.Dict.{DictChange, DictCall, on_pairs, dict_changed}
use Rattle.bq_builtin_methods.specs.List.{ListChange, ListCall, on_items, list_changed}
use Rattle.bq_builtin_laws.specs.Steps.Laws.{Own}
use Rattle.bq_builtin_laws.proofs.Steps.Machine.{bind_owns, look_owns, new_owns, SparesRules, changing_owns}

pub new_list_owns : (xs : List Datum) → Own (new_list xs)
unfolding new_list
new_list_owns xs = new_owns (items xs)

-- the values of a new list that the store gives
listed_owns : (values : StoreView → Result (List Datum) EvalFault) → Own (look (λ s. values s.store) >>= λ xs. new_list xs)
listed_owns values = bind_owns (look (λ s. values s.store)) (λ xs. new_list xs) (look_owns values) (λ xs. new_list_owns xs)

-- ---- changes of lists and dicts

pub items_spare : (change : ListChange) → SparesRules (on_items change)
unfolding on_items
items_spare change class = tt

pub pairs_spare : (change : DictChange) → SparesRules (on_pairs change)
unfolding on_pairs
pairs_spare change class = tt

list_owns : (call : ListCall) (home number : ℕ) (args : List Datum) → Own (list_changed call home number args)
list_owns call home number args =
    bind_owns (look (λ s. call s.store args)) (λ change. changing home number (on_items change)) (look_owns (λ s. call s args)) (λ change. changing_owns home number (on_items change) (items_spare change))

dict_owns : (call : DictCall) (home number : ℕ) (args : List Datum) → Own (dict_changed call home number args)
dict_owns call home number args =
    bind_owns (look (λ s. call s.store args)) (λ change. changing home number (on_pairs change)) (look_owns (λ s. call s args)) (λ change. changing_owns home number (on_pairs change) (pairs_spare change))

-- ---- rows

-- the action, where there is one, has a number of steps and an outcome of its own
abbrev pub ActionOwns : Calling → Type 0
ActionOwns (gives value) = Unit {0}
ActionOwns (lists values) = Unit {0}
ActionOwns (changes_list call c) = Unit {0}
ActionOwns (changes_dict call c) = Unit {0}
ActionOwns (does action) = (args : Passed) → Own (action args)

pub called_owns : (calling : Calling) (args : Passed) → ActionOwns calling → Own (called calling args)
called_owns (gives value) args own = look_owns (λ s. value s args)
called_owns (lists values) args own = listed_owns (λ s. values s args)
called_owns (changes_list call c) args own = list_owns call c.0 c.1 args.positional
called_owns (changes_dict call c) args own = dict_owns call c.0 c.1 args.positional
called_owns (does action) args own = own args

-- the actions of a table alone, in the order of its rows
abbrev pub ActionsOwn : List Calling → Type 0
ActionsOwn [] = Unit {0}
ActionsOwn (gives value ∷ others) = ActionsOwn others
ActionsOwn (lists values ∷ others) = ActionsOwn others
ActionsOwn (changes_list call c ∷ others) = ActionsOwn others
ActionsOwn (changes_dict call c ∷ others) = ActionsOwn others
ActionsOwn (does action ∷ others) = ((args : Passed) → Own (action args)) × ActionsOwn others

pub each_owns : (callings : List Calling) → ActionsOwn callings → AllByRecursion ActionOwns callings
each_owns [] own = tt
each_owns (gives value ∷ others) own = (tt, each_owns others own)
each_owns (lists values ∷ others) own = (tt, each_owns others own)
each_owns (changes_list call c ∷ others) own = (tt, each_owns others own)
each_owns (changes_dict call c ∷ others) own = (tt, each_owns others own)
each_owns (does action ∷ others) own = (own.0, each_owns others own.1)
