use Rattle.std.proofs.Common.{map, sym, ap, subst, ◌∙◌}
use Rattle.bq_board_plan.specs.Counts.{Has}
use Rattle.bq_board_plan.proofs.Lemmas.{loads_not_cyclic}
use Rattle.bq_load_order.specs.Outcome.{load_values}
use Rattle.bq_load_order.specs.SharedOutcomes.{seen, slot}
use Rattle.bq_load_order.specs.Slots.{found_at}
use Rattle.bq_load_order.proofs.Filled.{deep_outcome, found_outcome}
use Rattle.bq_load_order.proofs.outcomes.outcome_of.Goals as goal

pub is_too_deep-requires-clause-known : goal.is_too_deep-requires-clause-known
is_too_deep-requires-clause-known g c = c.requires.ready.known

pub first_at_limit-requires-clause-known : goal.first_at_limit-requires-clause-known
first_at_limit-requires-clause-known g c l h = c.row-loads.ensures.valid.1 c.args.m l (subst (λ xs. Has xs l) c.row-loads.ensures.row h)

pub first_at_limit-requires-clause-acyclic : goal.first_at_limit-requires-clause-acyclic
first_at_limit-requires-clause-acyclic g c l h = loads_not_cyclic c.args.ordered.now.graph.now c.args.m l c.requires.ready.acyclic (subst (λ xs. Has xs l) c.row-loads.ensures.row h)

pub returns-then-is_too_deep : goal.returns-then-is_too_deep
returns-then-is_too_deep g c =
    deep_outcome (g.E.Evaluate.means c.args.evaluator.now) c.args.ordered.now.graph.now c.args.m (sym c.is_too_deep.ensures ∙ c.if-is_too_deep.true) c.first_at_limit.result c.row-loads.result.now c.first_at_limit.ensures c.row-loads.ensures.row

pub returns : goal.returns
returns g c =
    let found = map (slot g.E.Evaluate.see g.E.Evaluate.see_fault) c.args.found.now in
    c.in_ok-outcome_by.ensures
    ∙ found_outcome (g.E.Evaluate.means c.args.evaluator.now) c.args.ordered.now.graph.now found c.args.m c.requires.ready (sym c.is_too_deep.ensures ∙ c.if-is_too_deep.false)
    (seen g.E.Evaluate.see c.in_ok-imports.imports) (c.in_ok-imports.ensures ∙ ap (load_values (found_at found)) c.row-loads.ensures.row)
