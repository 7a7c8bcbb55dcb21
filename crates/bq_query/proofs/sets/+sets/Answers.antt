use Rattle.std.proofs.Common.{◌≡◌, ◌∙◌, ◌+◌, ◌<◌, ◌≤◌, List, [], ◌∷◌, Bool, drop, length, map, refl, sym, ap, subst, rules, arith}
use Rattle.std.proofs.lemmas.Grind.{common_steps}
use Rattle.std.proofs.lemmas.List.{drop_more, at_drop_all}
use Rattle.std.proofs.lemmas.Result.{err_from_is_err_and}
use Rattle.bq_query_graph.specs.Marks.{IsSet, Marked}
use Rattle.bq_query_check.specs.declared.formula.SetExpr.TheFolds.{the_lemmas}
use Rattle.bq_query_check.specs.Formula.{Formula, Step, formula_of, step_of, chained, named, variable, let_in, one, two, AreClosed}
use Rattle.bq_query_function.specs.Calls.{of_one, of_two}
use Rattle.bq_query_function.specs.Sets.{OfOne, OfTwo}
use Rattle.bq_query.specs.Operators.{Combined}
use Rattle.bq_query.specs.Stands.{Bound, AreSets}
use Rattle.bq_query.specs.Faults.{Has, AreBound, fault_in}
use Rattle.bq_query.proofs.Answering.{reworded, named_answered, has_one, first_fails, second_fails, both_answered, let_answered, value_fails, kept_before, popped_kept}
use Rattle.bq_query.proofs.Bound.{bound_as, one_bound, start_bound, rest_closed}
use Rattle.bq_query.proofs.Firsts.{fault_stays}
use Rattle.bq_query.proofs.Formulas.{SoFar, none_done, one_more, fails_there, all_done}
use Rattle.bq_query_check.proofs.Closed.{operand_closed}
use Rattle.bq_query_check.proofs.Says.{patterns_say, variable_says, let_says, chain_says, one_says, two_says, step_says}
use Rattle.bq_query.proofs.sets.+sets.Goals as goal

-- ---- functions

pub one_of-returns-in_err-x : goal.one_of-returns-in_err-x
one_of-returns-in_err-x t c =
    let p = err_from_is_err_and c.from_residual.result c.from_residual.ensures.1 in
    rw (p.1, p.2) (λ other. c.in_err-x.ensures other)

pub one_of-returns : goal.one_of-returns
one_of-returns t c =
    let w = c.args.graph.now in
    let f = of_one c.args.function.now in
    let x = c.in_ok-x.x.items in
    let r = c.in_ok-of_one.field-0.items in
    let s : IsSet (length w.targets) r (OfOne w f (Marked x)) = subst (λ (ms : List Bool). IsSet (length w.targets) r (OfOne w f (Marked ms))) c.deref.ensures.value c.in_ok-of_one.ensures in
    (has_one w c.args.bound.now f (formula_of c.args.argument.now) x r c.in_ok-x.ensures.0 s, c.in_ok-x.ensures.1)

-- ---- variables have sets

pub one_of-set_of-requires : goal.one_of-set_of-requires
one_of-set_of-requires t c = (first_of (search rules, search (rules, the_lemmas), omega arith, grind (arith, common_steps)), c.requires)

pub chain_of-set_of-requires : goal.chain_of-set_of-requires
chain_of-set_of-requires t c =
    let w = c.args.graph.now in
    let item = c.operation-item.result in
    let os = c.args.operations.now in
    let here : AreBound w (formula_of item.operand) c.args.bound.now = record {
      closed = operand_closed (length c.args.bound.now) os c.loop-operation.operation-index item c.requires.closed c.loop-operation-test.true c.operation-item.is;
      sets = c.requires.sets;
    } in
    (first_of (search rules, search (rules, the_lemmas), omega arith, grind (arith, common_steps)), bound_as w (formula_of item.operand) (formula_of item.operand) c.args.bound.now c.loop-operation.bound refl c.loop-operation.invariant.kept here)

-- ---- lets

pub let_of-set_of-requires : goal.let_of-set_of-requires
let_of-set_of-requires t c = (first_of (search rules, search (rules, the_lemmas), omega arith, grind (arith, common_steps)), subst (λ (bs : Bound). AreBound c.args.graph.now (formula_of c.args.body.now) bs) (sym c.in_ok-bind.ensures) c.requires)

pub let_of-returns : goal.let_of-returns
let_of-returns t c =
    let w = c.args.graph.now in (
      subst (λ (bs : Bound). Has w bs (formula_of c.args.body.now) c.in_ok-found.found.items) c.in_ok-bind.ensures c.in_ok-found.ensures.0,
      popped_kept c.args.bound.now c.set_of.new.bound c.pop.new.self c.args.set.items c.pop.result c.pop.ensures (c.in_ok-found.ensures.1 ∙ c.in_ok-bind.ensures),
    )

-- ---- chains

pub chain_of-loop-operation-init : goal.chain_of-loop-operation-init
chain_of-loop-operation-init t c = record {
  so_far = λ x h. none_done c.args.graph.now c.args.bound.now x (map step_of c.args.operations.now) c.args.first.items h;
  kept = refl;
  long = c.requires.first;
}

pub chain_of-returns-in_err-operand : goal.chain_of-returns-in_err-operand
chain_of-returns-in_err-operand t c =
    let w = c.args.graph.now in
    let env = c.args.bound.now in
    let i = c.loop-operation.operation-index in
    let os = c.args.operations.now in
    let item = c.operation-item.result in
    let rest = map step_of (drop (i + 1) os) in
    let o : Step = record { operator = item.operator; formula = formula_of item.operand } in
    let split = drop_more os i item c.loop-operation-test.true ∙ ap (λ z. z ∷ drop (i + 1) os) (sym c.operation-item.is) in
    let left : map step_of (drop i os) ≡ o ∷ rest = ap (map step_of) split ∙ ap (λ s. s ∷ rest) (step_says item) in
    let p = err_from_is_err_and c.from_residual.result c.from_residual.ensures.1 in
    λ x h. rw (p.1, p.2)
    (λ other. fails_there w env (chained x (map step_of os)) o rest c.loop-operation.set.items _
    (subst (λ (ss : List Step). SoFar w env (chained x (map step_of os)) ss c.loop-operation.set.items) left (c.loop-operation.invariant.so_far x h)) (c.in_err-operand.ensures other))

pub chain_of-loop-operation-preserved : goal.chain_of-loop-operation-preserved
chain_of-loop-operation-preserved t c =
    let w = c.args.graph.now in
    let env = c.args.bound.now in
    let i = c.loop-operation.operation-index in
    let os = c.args.operations.now in
    let item = c.operation-item.result in
    let rest = map step_of (drop (i + 1) os) in
    let o : Step = record { operator = item.operator; formula = formula_of item.operand } in
    let split = drop_more os i item c.loop-operation-test.true ∙ ap (λ z. z ∷ drop (i + 1) os) (sym c.operation-item.is) in
    let left : map step_of (drop i os) ≡ o ∷ rest = ap (map step_of) split ∙ ap (λ s. s ∷ rest) (step_says item) in
    let set = c.loop-operation.set.items in
    let operand = c.in_ok-operand.operand.items in
    let r = c.in_ok-set.set.items in
    let kept = c.loop-operation.invariant.kept in
    let has = subst (λ (bs : Bound). Has w bs (formula_of item.operand) operand) kept c.in_ok-operand.ensures.0 in
    let made : IsSet (length w.targets) r (Combined item.operator (Marked set) (Marked c.deref-in-loop-operation.result.now)) =
    subst (λ (ms : List Bool). IsSet (length w.targets) r (Combined item.operator (Marked ms) (Marked c.deref-in-loop-operation.result.now))) c.deref.ensures.value c.in_ok-set.ensures in
    let combined = subst (λ (ms : List Bool). IsSet (length w.targets) r (Combined item.operator (Marked set) (Marked ms))) c.deref-in-loop-operation.ensures.value made in
    record {
      so_far = λ x h. one_more w env (chained x (map step_of os)) o rest set operand r
          (subst (λ (ss : List Step). SoFar w env (chained x (map step_of os)) ss set) left (c.loop-operation.invariant.so_far x h)) has.none has.stands combined;
      kept = c.in_ok-operand.ensures.1 ∙ kept;
      long = c.in_ok-set.ensures.0;
    }

pub chain_of-returns : goal.chain_of-returns
chain_of-returns t c =
    let w = c.args.graph.now in
    let env = c.args.bound.now in
    let i = c.loop-operation.operation-index in
    let os = c.args.operations.now in
    let past : length os ≤ i = omega arith in
    let nothing_left : map step_of (drop i os) ≡ [] = at_drop_all (map step_of) os i past in
    λ x h. (
      all_done w env (chained x (map step_of os)) c.loop-operation.set.items
          (subst (λ (ss : List Step). SoFar w env (chained x (map step_of os)) ss c.loop-operation.set.items) nothing_left (c.loop-operation.invariant.so_far x h)),
      c.loop-operation.invariant.kept,
    )

-- ---- parts of queries have sets for their variables

pub set_of-set_bound-requires : goal.set_of-set_bound-requires
set_of-set_bound-requires t c =
    let w = c.args.graph.now in
    let says : formula_of c.args.query.now ≡ variable c.in-Variable.number = first_of (search (rules, the_lemmas), grind (arith, common_steps, variable_says), grind (arith, common_steps)) in
    let h = bound_as w (formula_of c.args.query.now) (variable c.in-Variable.number) c.args.bound.now c.args.bound.now says refl c.requires in
    subst (λ (bs : Bound). c.in-Variable.number < length bs) (sym c.as_slice.ensures) h.closed

pub set_of-one_of-requires : goal.set_of-one_of-requires
set_of-one_of-requires t c =
    let w = c.args.graph.now in
    let x = formula_of c.get-x.result.now in
    let says : formula_of c.args.query.now ≡ one (of_one c.in-One.function) (formula_of c.get-x.result.now) = first_of (search (rules, the_lemmas), grind (arith, common_steps, one_says), grind (arith, common_steps)) in
    (first_of (search rules, search (rules, the_lemmas), omega arith, grind (arith, common_steps)), one_bound w (of_one c.in-One.function) x c.args.bound.now (bound_as w (formula_of c.args.query.now) (one (of_one c.in-One.function) x) c.args.bound.now c.args.bound.now says refl c.requires))

pub set_of-set_of-requires-in-Chain : goal.set_of-set_of-requires-in-Chain
set_of-set_of-requires-in-Chain t c =
    let w = c.args.graph.now in
    let x = formula_of c.get-first.result.now in
    let os = c.as_slice-operations.result.now in
    let says : formula_of c.args.query.now ≡ chained (formula_of c.get-first.result.now) (map step_of c.as_slice-operations.result.now) = first_of (search (rules, the_lemmas), grind (arith, common_steps, chain_says), grind (arith, common_steps)) in
    (first_of (search rules, search (rules, the_lemmas), omega arith, grind (arith, common_steps)), start_bound w x os c.args.bound.now (bound_as w (formula_of c.args.query.now) (chained x (map step_of os)) c.args.bound.now c.args.bound.now says refl c.requires))

pub set_of-chain_of-requires : goal.set_of-chain_of-requires
set_of-chain_of-requires t c =
    let w = c.args.graph.now in
    let x = formula_of c.get-first.result.now in
    let os = c.as_slice-operations.result.now in
    let says : formula_of c.args.query.now ≡ chained (formula_of c.get-first.result.now) (map step_of c.as_slice-operations.result.now) = first_of (search (rules, the_lemmas), grind (arith, common_steps, chain_says), grind (arith, common_steps)) in
    let h = bound_as w (formula_of c.args.query.now) (chained x (map step_of os)) c.args.bound.now c.set_of-in-Chain.new.bound says c.in_ok-set-in-Chain.ensures.1 c.requires in
    let first : length c.in_ok-set-in-Chain.set.items ≡ length w.targets = c.in_ok-set-in-Chain.ensures.0.stands.0 in
    let closed : AreClosed (length c.set_of-in-Chain.new.bound) (map step_of c.as_slice-operations.result.now) = rest_closed w x os c.set_of-in-Chain.new.bound h in
    let sets : AreSets w c.set_of-in-Chain.new.bound = h.sets in
    (first_of (search rules, search (rules, the_lemmas), omega arith, grind (arith, common_steps)), search rules)

-- ---- queries

pub set_of-returns-in-Named : goal.set_of-returns-in-Named
set_of-returns-in-Named t c =
    let says : formula_of c.args.query.now ≡ named c.as_slice-patterns.result.now = first_of (search (rules, the_lemmas), grind (arith, common_steps, patterns_say), grind (arith, common_steps)) in
    reworded (λ v. v.items) c.args.graph.now (formula_of c.args.query.now) (named c.as_slice-patterns.result.now) c.args.bound.now c.args.bound.now c.targets_named.result c.args.bound.now says
    (named_answered (λ v. v.items) c.args.graph.now c.packages.result.now c.targets.result.now c.as_slice-patterns.result.now c.args.bound.now c.targets_named.result c.packages.ensures.value c.targets.ensures.value
    c.targets_named.ensures.fault c.targets_named.ensures.set)

pub set_of-returns-in-One : goal.set_of-returns-in-One
set_of-returns-in-One t c =
    let says : formula_of c.args.query.now ≡ one (of_one c.in-One.function) (formula_of c.get-x.result.now) = first_of (search (rules, the_lemmas), grind (arith, common_steps, one_says), grind (arith, common_steps)) in
    reworded (λ v. v.items) c.args.graph.now (formula_of c.args.query.now) (one (of_one c.in-One.function) (formula_of c.get-x.result.now)) c.args.bound.now c.args.bound.now c.one_of.result c.one_of.new.bound says c.one_of.ensures

pub set_of-returns-in_err-x-in-Two : goal.set_of-returns-in_err-x-in-Two
set_of-returns-in_err-x-in-Two t c =
    let w = c.args.graph.now in
    let a = formula_of c.get-first-in-Two.result.now in
    let b = formula_of c.get-second.result.now in
    let says : formula_of c.args.query.now ≡ two (of_two c.in-Two.function) (formula_of c.get-first-in-Two.result.now) (formula_of c.get-second.result.now) = first_of (search (rules, the_lemmas), grind (arith, common_steps, two_says), grind (arith, common_steps)) in
    let p = err_from_is_err_and c.from_residual-in_err-x-in-Two.result c.from_residual-in_err-x-in-Two.ensures.1 in
    rw (p.1, p.2) (λ other. ap (fault_in w) says ∙ first_fails w (of_two c.in-Two.function) a b _ (c.in_err-x-in-Two.ensures other))

pub set_of-returns-in_err-y-in-Two : goal.set_of-returns-in_err-y-in-Two
set_of-returns-in_err-y-in-Two t c =
    let w = c.args.graph.now in
    let a = formula_of c.get-first-in-Two.result.now in
    let b = formula_of c.get-second.result.now in
    let says : formula_of c.args.query.now ≡ two (of_two c.in-Two.function) (formula_of c.get-first-in-Two.result.now) (formula_of c.get-second.result.now) = first_of (search (rules, the_lemmas), grind (arith, common_steps, two_says), grind (arith, common_steps)) in
    let p = err_from_is_err_and c.from_residual-in_err-y-in-Two.result c.from_residual-in_err-y-in-Two.ensures.1 in
    rw (p.1, p.2) (λ other. ap (fault_in w) says ∙ second_fails w (of_two c.in-Two.function) a b _ c.in_ok-x-in-Two.ensures.0.none (c.in_err-y-in-Two.ensures other))

pub set_of-returns-in_ok-of_two-in-Two : goal.set_of-returns-in_ok-of_two-in-Two
set_of-returns-in_ok-of_two-in-Two t c =
    let w = c.args.graph.now in
    let f = of_two c.in-Two.function in
    let bs = c.args.bound.now in
    let a = formula_of c.get-first-in-Two.result.now in
    let b = formula_of c.get-second.result.now in
    let says : formula_of c.args.query.now ≡ two (of_two c.in-Two.function) (formula_of c.get-first-in-Two.result.now) (formula_of c.get-second.result.now) = first_of (search (rules, the_lemmas), grind (arith, common_steps, two_says), grind (arith, common_steps)) in
    let x = c.in_ok-x-in-Two.x.items in
    let y = c.in_ok-y-in-Two.y.items in
    let r = c.in_ok-of_two-in-Two.field-0.items in
    let s : IsSet (length w.targets) r (OfTwo w f (Marked x) (Marked c.deref-in-Two.result.now)) =
    subst (λ (ms : List Bool). IsSet (length w.targets) r (OfTwo w f (Marked ms) (Marked c.deref-in-Two.result.now))) c.deref.ensures.value c.in_ok-of_two-in-Two.ensures in
    let u : IsSet (length w.targets) r (OfTwo w f (Marked x) (Marked y)) = subst (λ (ms : List Bool). IsSet (length w.targets) r (OfTwo w f (Marked x) (Marked ms))) c.deref-in-Two.ensures.value s in
    let h = both_answered w f a b bs c.set_of-in-Two.new.bound c.set_of-in-Two-2.new.bound x y r c.in_ok-x-in-Two.ensures c.in_ok-y-in-Two.ensures u in
    (subst (λ (z : Formula). Has w bs z r) (sym says) h.0, h.1)

pub set_of-returns-in_err-set-in-Let : goal.set_of-returns-in_err-set-in-Let
set_of-returns-in_err-set-in-Let t c =
    let w = c.args.graph.now in
    let a = formula_of c.get-value.result.now in
    let b = formula_of c.get-body.result.now in
    let says : formula_of c.args.query.now ≡ let_in (formula_of c.get-value.result.now) (formula_of c.get-body.result.now) = first_of (search (rules, the_lemmas), grind (arith, common_steps, let_says), grind (arith, common_steps)) in
    let p = err_from_is_err_and c.from_residual-in_err-set-in-Let.result c.from_residual-in_err-set-in-Let.ensures.1 in
    rw (p.1, p.2) (λ other. ap (fault_in w) says ∙ value_fails w a b _ (c.in_err-set-in-Let.ensures other))

pub set_of-returns-in_ok-set-in-Let : goal.set_of-returns-in_ok-set-in-Let
set_of-returns-in_ok-set-in-Let t c =
    let w = c.args.graph.now in
    let bs = c.args.bound.now in
    let a = formula_of c.get-value.result.now in
    let b = formula_of c.get-body.result.now in
    let says : formula_of c.args.query.now ≡ let_in (formula_of c.get-value.result.now) (formula_of c.get-body.result.now) = first_of (search (rules, the_lemmas), grind (arith, common_steps, let_says), grind (arith, common_steps)) in
    reworded (λ v. v.items) w (formula_of c.args.query.now) (let_in a b) bs bs c.let_of.result c.let_of.new.bound says
    (let_answered (λ v. v.items) w a b bs c.set_of.new.bound c.in_ok-set-in-Let.set.items c.let_of.result c.let_of.new.bound c.in_ok-set-in-Let.ensures c.let_of.ensures)

pub set_of-returns-in_err-set-in-Chain : goal.set_of-returns-in_err-set-in-Chain
set_of-returns-in_err-set-in-Chain t c =
    let w = c.args.graph.now in
    let x = formula_of c.get-first.result.now in
    let steps = map step_of c.as_slice-operations.result.now in
    let says : formula_of c.args.query.now ≡ chained (formula_of c.get-first.result.now) (map step_of c.as_slice-operations.result.now) = first_of (search (rules, the_lemmas), grind (arith, common_steps, chain_says), grind (arith, common_steps)) in
    let p = err_from_is_err_and c.from_residual-in_err-set-in-Chain.result c.from_residual-in_err-set-in-Chain.ensures.1 in
    rw (p.1, p.2) (λ other. ap (fault_in w) says ∙ fault_stays w x steps _ (c.in_err-set-in-Chain.ensures other))

pub set_of-returns-in_ok-set-in-Chain : goal.set_of-returns-in_ok-set-in-Chain
set_of-returns-in_ok-set-in-Chain t c =
    let w = c.args.graph.now in
    let bs = c.args.bound.now in
    let middle = c.set_of-in-Chain.new.bound in
    let x = formula_of c.get-first.result.now in
    let steps = map step_of c.as_slice-operations.result.now in
    let says : formula_of c.args.query.now ≡ chained (formula_of c.get-first.result.now) (map step_of c.as_slice-operations.result.now) = first_of (search (rules, the_lemmas), grind (arith, common_steps, chain_says), grind (arith, common_steps)) in
    let has = subst (λ (all : Bound). Has w all x c.in_ok-set-in-Chain.set.items) (sym c.in_ok-set-in-Chain.ensures.1) c.in_ok-set-in-Chain.ensures.0 in
    reworded (λ v. v.items) w (formula_of c.args.query.now) (chained x steps) bs bs c.chain_of.result c.chain_of.new.bound says
    (kept_before (λ v. v.items) w (chained x steps) bs middle c.chain_of.result c.chain_of.new.bound c.in_ok-set-in-Chain.ensures.1 (c.chain_of.ensures x has))
