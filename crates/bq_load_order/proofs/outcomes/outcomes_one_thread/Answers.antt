use Rattle.std.proofs.Common.{map, length, arith}
use Rattle.std.proofs.lemmas.List.{length-map}
use Rattle.bq_load_order.specs.Outcome.{outcome}
use Rattle.bq_load_order.specs.SharedOutcomes.{slot}
use Rattle.bq_load_order.proofs.Filled.{is_load_order, fill_none, none_shown}
use Rattle.bq_load_order.proofs.outcomes.outcomes_one_thread.Goals as goal

pub complete-requires-clause-order : goal.complete-requires-clause-order
complete-requires-clause-order g c _ _ = is_load_order c.args.graph.now c.in_ok-order.order.modules.items c.in_ok-order.order.pending.items c.in_ok-order.ensures.order c.in_ok-order.ensures.cyclic

pub complete-requires-clause-found : goal.complete-requires-clause-found
complete-requires-clause-found g c _ _ =
    let held = slot g.E.Evaluate.see g.E.Evaluate.see_fault in
    fill_none (outcome (g.E.Evaluate.means c.args.evaluator.now) c.args.graph.now) (length c.args.graph.now) (map held c.in_ok-found.found.items)
    (omega (arith, length-map c.in_ok-found.found.items held, c.in_ok-found.ensures.0, c.in_ok-found.found.ok, c.len.ensures.len)) (none_shown g.E.Evaluate.see g.E.Evaluate.see_fault c.in_ok-found.found.items c.in_ok-found.ensures.1)
