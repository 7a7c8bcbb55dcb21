-- Lists and dicts that are being made (Starlark, "List comprehensions", "Dictionaries"): what they hold so far, and one more.
use Rattle.std.specs.Prelude.{cond, List, [], ◌∷◌, ◌++◌, is_some, Result, Ok, Err}
use Rattle.bq_base.specs.declared.fault.EvalFault.{EvalFault}
use Rattle.bq_base.specs.declared.fault.EvalFault.TheVariants.{WrongType, DoubleKey}
use Rattle.bq_value.specs.Contents.{Contents, items, pairs}
use Rattle.bq_value.specs.Datum.{Datum}
use Rattle.bq_value.specs.Pairs.{found, put}
use Rattle.bq_builtin_machine.specs.State.{State}
use Rattle.bq_builtin_machine.specs.Action.{Action, ◌>>=◌, given}
use Rattle.bq_builtin_machine.specs.Machine.{key}
use Rattle.bq_builtin_machine.specs.Answer.{and_then}
use Rattle.bq_builtin_operators.specs.Sequence.{limited}

-- a list with one more element (F54)
unfoldable pub with_element : Contents → Datum → Result Contents EvalFault
with_element (items xs) v = and_then (limited (xs ++ v ∷ [])) (λ ys. Ok (items ys))
with_element _ v = Err WrongType

-- a dict in which the key has this value (F54)
unfoldable pub with_pair : Contents → Datum → Datum → Result Contents EvalFault
with_pair (pairs ps) k v = and_then (limited (put k v ps)) (λ qs. Ok (pairs qs))
with_pair _ k v = Err WrongType

-- a key that is there already is F46
unfoldable pub with_new_pair : Contents → Datum → Datum → Result Contents EvalFault
with_new_pair (pairs ps) k v = cond (is_some (found k ps)) (Err DoubleKey) (with_pair (pairs ps) k v)
with_new_pair _ k v = Err WrongType

-- a list that is made takes an element
unfoldable pub add : Contents → Datum → Action State Contents
add c v = given (with_element c v)

-- a dict that is made takes a pair, in place of one with the same key
unfoldable pub put_pair : Contents → Datum → Datum → Action State Contents
put_pair c x v = key x >>= λ k. given (with_pair c k v)

-- a dict display takes a pair, whose key may not stand there twice
unfoldable pub add_pair : Contents → Datum → Datum → Action State Contents
add_pair c x v = key x >>= λ k. given (with_new_pair c k v)
