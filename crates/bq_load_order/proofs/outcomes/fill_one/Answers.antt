use Rattle.bq_load_order.specs.Outcome.{outcome}
use Rattle.bq_load_order.proofs.Filled.{puts_found}
use Rattle.bq_load_order.proofs.outcomes.fill_one.Goals as goal

pub returns : goal.returns
returns g c = puts_found g.E.Evaluate.see g.E.Evaluate.see_fault (outcome (g.E.Evaluate.means c.args.evaluator.now) c.args.ordered.now.graph.now) c.args.found.now.items c.args.m c.in_ok-outcome.outcome c.in_ok-outcome.ensures
