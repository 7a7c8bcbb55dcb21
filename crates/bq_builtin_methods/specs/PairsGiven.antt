-- The pairs that `update` and `dict` are given (Starlark, "dict", "dict·update"): a dict, or an iterable of lists and tuples of two
-- elements, and named arguments.
use Rattle.std.specs.Prelude.{Bool, true, false, cond, List, [], ◌∷◌, ◌++◌, Option, Some, None, Result, Ok, Err, refl}
use Rattle.std.specs.Coded.{Coded, code_by, coded×, coded_bool}
use Rattle.bq_base.specs.declared.fault.EvalFault.{EvalFault}
use Rattle.bq_base.specs.declared.fault.EvalFault.TheVariants.{WrongType, BadValue}
use Rattle.bq_value.specs.Datum.{Datum, tuple, cell, list_of}
use Rattle.bq_value.specs.Contents.{Contents, items, pairs}
use Rattle.bq_value.specs.Pairs.{coded_pairs}
use Rattle.bq_value.specs.Cells.{StoreView, content_at}
use Rattle.bq_builtin_machine.specs.State.{State}
use Rattle.bq_builtin_machine.specs.Action.{Action, ◌>>=◌, pure, given, look}
use Rattle.bq_builtin_machine.specs.Args.{Passed}
use Rattle.bq_builtin_machine.specs.Parameters.{SignatureView}
use Rattle.bq_builtin_machine.specs.Binding.{bind}
use Rattle.bq_builtin_machine.specs.Iteration.{elements}
use Rattle.bq_builtin_machine.specs.Machine.{key}
use Rattle.bq_builtin_machine.specs.Answer.{and_then}

-- the pairs of a dict, in its order
abbrev pub Pairs : Type 0
Pairs = List (Datum × Datum)

-- What is read so far: the pairs whose keys are made, those whose keys are still to be made, whether each element that was read has
-- two parts, and the named arguments.
pub record GivenView : Type 0 where
  pub keyed : Pairs
  pub unkeyed : Pairs
  pub all_have_two : Bool
  pub keywords : Pairs

-- ---- what is read

-- the elements of what is given as a pair, which is a list or a tuple (F40)
abbrev pub parts_of : StoreView → Datum → Result (List Datum) EvalFault
parts_of s (tuple xs) = Ok (list_of xs)
parts_of s (cell home number) = elim (content_at s home number) [ Some (items xs) ↦ Ok xs | _ ↦ Err WrongType ]
parts_of s _ = Err WrongType

-- a pair of two elements, if there are just two
abbrev pub two : List Datum → Option (Datum × Datum)
two (k ∷ v ∷ []) = Some (k, v)
two _ = None

-- the two parts of an element, if it has two
unfoldable pub pair_in : StoreView → Datum → Result (Option (Datum × Datum)) EvalFault
pair_in s v = and_then (parts_of s v) (λ xs. Ok (two xs))

-- reads one element as a pair
unfoldable pub take_element : StoreView → Datum → GivenView → Result GivenView EvalFault
take_element s v g =
    and_then (pair_in s v) (λ o. Ok (elim o [ Some p ↦ record g { unkeyed = g.unkeyed ++ p ∷ [] } | None ↦ record g { all_have_two = false } ]))

-- reads elements as pairs, in turn
abbrev pub take_elements : StoreView → List Datum → GivenView → Result GivenView EvalFault
take_elements s [] g = Ok g
take_elements s (v ∷ vs) g = and_then (take_element s v g) (take_elements s vs)

-- the pairs of a dict
abbrev pub dict_of : StoreView → Datum → Option Pairs
dict_of s (cell home number) = elim (content_at s home number) [ Some (pairs ps) ↦ Some ps | _ ↦ None ]
dict_of s _ = None

-- reads an argument: a dict's pairs as they are, other values by their elements
abbrev pub read_by : Option Pairs → Datum → GivenView → Action State GivenView
read_by (Some ps) v g = pure (record g { keyed = g.keyed ++ ps })
read_by None v g = elements v >>= λ xs. look (λ s. take_elements s.store xs g)

-- A dict gives its pairs, whose keys are made already. An iterable gives its elements, each of which is a list or a tuple (F40).
unfoldable pub read : Datum → GivenView → Action State GivenView
read v g = λ s. read_by (dict_of s.store v) v g s

-- ---- what is given

-- `(pairs = [], **keywords)`
abbrev pub pairs_signature : SignatureView
pairs_signature = record { parameters = record { name = None; is_required = false } ∷ []; placed = 1; takes_rest = false; takes_keywords = true }

-- the argument by place, if there is one
abbrev pub first_value : List (Option Datum) → Option Datum
first_value [] = None
first_value (o ∷ os) = o

-- before the argument is read there are the keywords alone
abbrev pub nothing_read : Pairs → GivenView
nothing_read ps = record { keyed = []; unkeyed = []; all_have_two = true; keywords = ps }

-- reads the argument, if there is one
abbrev pub read_optional : Option Datum → GivenView → Action State GivenView
read_optional None g = pure g
read_optional (Some v) g = read v g

-- the arguments are bound (F52), and the pairs are read (F40)
unfoldable pub pairs_given : Passed → Action State GivenView
pairs_given args = given (bind pairs_signature args) >>= λ b. read_optional (first_value b.values) (nothing_read b.keywords)

-- ---- the keys

-- a pair, after those that are made, once its key is (F45, F53, F55)
unfoldable pub make_key : Datum × Datum → Pairs → Action State Pairs
make_key p made = key p.0 >>= λ k. pure (made ++ (k, p.1) ∷ [])

-- puts pairs into those that are made, in turn, each after its key was looked at
abbrev pub make_keys : List (Datum × Datum) → Pairs → Action State Pairs
make_keys [] made = pure made
make_keys (p ∷ ps) made = make_key p made >>= λ now. make_keys ps now

-- All pairs in order, the named arguments last. An element that hasn't two parts is F57, after the keys of those that have.
unfoldable pub all_pairs : GivenView → Action State Pairs
all_pairs g = make_keys g.unkeyed g.keyed >>= λ ps. given (cond g.all_have_two (Ok (ps ++ g.keywords)) (Err BadValue))

-- a code of what is read of given pairs, which nothing else that is read has
abbrev pub coded_given : Coded GivenView
coded_given =
    code_by (Pairs × (Pairs × (Bool × Pairs))) (coded× coded_pairs (coded× coded_pairs (coded× coded_bool coded_pairs)))
    (λ g. (g.keyed, (g.unkeyed, (g.all_have_two, g.keywords)))) (λ p. record { keyed = p.0; unkeyed = p.1.0; all_have_two = p.1.1.0; keywords = p.1.1.1 }) (λ _. refl)
