use Rattle.bq_load_order.proofs.Filled.{is_load_order}
use Rattle.bq_load_order.proofs.again.outcomes_again.Goals as goal

pub kept_in_order-requires-clause-order : goal.kept_in_order-requires-clause-order
kept_in_order-requires-clause-order g c _ _ = is_load_order c.args.graph.now c.in_ok-order.order.modules.items c.in_ok-order.order.pending.items c.in_ok-order.ensures.order c.in_ok-order.ensures.cyclic

pub complete-requires-clause-order : goal.complete-requires-clause-order
complete-requires-clause-order g c _ _ = is_load_order c.args.graph.now c.in_ok-order.order.modules.items c.in_ok-order.order.pending.items c.in_ok-order.ensures.order c.in_ok-order.ensures.cyclic
