-- Lists and dicts that are being made, and the arguments of calls, have numbers of steps and outcomes of their own.
use Rattle.std.proofs.Common.{ℕ, List, [], ◌∷◌}
use Rattle.bq_value.specs.Contents.{Contents}
use Rattle.bq_value.specs.Datum.{Datum}
use Rattle.bq_builtin_machine.specs.Action.{given, look}
use Rattle.bq_builtin_machine.specs.Args.{Passed}
use Rattle.bq_builtin_machine.specs.Iteration.{elements, elements_in}
use Rattle.bq_builtin_machine.specs.Machine.{key}
use Rattle.bq_builtin_operators.specs.Operand.{dict_in}
use Rattle.bq_builtin_machine.specs.Answer.{and_then}
use Rattle.bq_eval.specs.Making.{with_element, with_pair, with_new_pair, add, put_pair, add_pair}
use Rattle.bq_eval.specs.Passing.{if_few, with_positional, with_named, with_pairs, pass, pass_named, pass_all, pass_all_named}
use Rattle.bq_eval.specs.Unpacking.{just, parts}
use Rattle.bq_builtin_laws.specs.Steps.Laws.{Own}
use Rattle.bq_builtin_laws.proofs.Steps.Machine.{given_owns, bind_owns, look_owns, elements_owns}
use Rattle.bq_builtin_laws.proofs.Steps.Operators.{key_owns}

pub add_owns : (c : Contents) (v : Datum) → Own (add c v)
unfolding add
add_owns c v = given_owns (with_element c v)

pub put_pair_owns : (c : Contents) (x v : Datum) → Own (put_pair c x v)
unfolding put_pair
put_pair_owns c x v = bind_owns (key x) (λ k. given (with_pair c k v)) (key_owns x) (λ k. given_owns (with_pair c k v))

pub add_pair_owns : (c : Contents) (x v : Datum) → Own (add_pair c x v)
unfolding add_pair
add_pair_owns c x v = bind_owns (key x) (λ k. given (with_new_pair c k v)) (key_owns x) (λ k. given_owns (with_new_pair c k v))

pub pass_owns : (p : Passed) (v : Datum) → Own (pass p v)
unfolding pass
pass_owns p v = given_owns (if_few (with_positional p (v ∷ [])))

pub pass_named_owns : (p : Passed) (name : List ℕ) (v : Datum) → Own (pass_named p name v)
unfolding pass_named
pass_named_owns p name v = given_owns (if_few (with_named p name v))

pub pass_all_owns : (p : Passed) (v : Datum) → Own (pass_all p v)
unfolding pass_all
pass_all_owns p v = bind_owns (elements v) (λ xs. given (if_few (with_positional p xs))) (elements_owns v) (λ xs. given_owns (if_few (with_positional p xs)))

pub pass_all_named_owns : (p : Passed) (v : Datum) → Own (pass_all_named p v)
unfolding pass_all_named
pass_all_named_owns p v =
    bind_owns (look (λ s. dict_in s.store v)) (λ ps. given (and_then (with_pairs p ps) if_few)) (look_owns (λ s. dict_in s v)) (λ ps. given_owns (and_then (with_pairs p ps) if_few))

pub parts_owns : (count : ℕ) (v : Datum) → Own (parts count v)
unfolding parts
parts_owns count v = look_owns (λ s. just count (elements_in s v))
