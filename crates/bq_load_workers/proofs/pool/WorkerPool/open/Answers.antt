use Rattle.std.proofs.Common.{refl, ◌∙◌}
use Rattle.bq_load_order.proofs.Filled.{is_load_order}
use Rattle.bq_load_workers.proofs.pool.WorkerPool.open.Goals as goal

pub board_of-requires-clause-seats : goal.board_of-requires-clause-seats
board_of-requires-clause-seats g c _ _ = c.requires

pub board_of-requires-clause-cyclic : goal.board_of-requires-clause-cyclic
board_of-requires-clause-cyclic g c _ _ = c.in_ok-order.ensures.cyclic

pub board_of-requires-clause-depths : goal.board_of-requires-clause-depths
board_of-requires-clause-depths g c _ _ = c.in_ok-order.ensures.depths

pub invariant_of-pool : goal.invariant_of-pool
invariant_of-pool g c = record {
  by = c.in_ok-board.ensures.of.0;
  of = c.in_ok-board.ensures.of.1;
  plan = c.in_ok-board.ensures.plan;
  sorted = is_load_order c.args.graph c.in_ok-order.order.modules.items c.in_ok-order.order.pending.items c.in_ok-order.ensures.order c.in_ok-order.ensures.cyclic;
  cyclic = c.in_ok-order.ensures.cyclic;
  depths = c.in_ok-order.ensures.depths;
}

pub returns-clause-of : goal.returns-clause-of
returns-clause-of g c = (refl, refl)

pub returns-clause-count : goal.returns-clause-count
returns-clause-count g c = c.in_ok-seats.ensures.count ∙ c.in_ok-board.ensures.count

pub returns-clause-fresh : goal.returns-clause-fresh
returns-clause-fresh g c = c.in_ok-seats.ensures.fresh
