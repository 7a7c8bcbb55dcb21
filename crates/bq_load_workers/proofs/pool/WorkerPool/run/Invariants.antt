use Rattle.std.proofs.Common.{length}
use Rattle.bq_board.specs.Seats.{IsSeatOf, view_of}
use Rattle.bq_load_order.specs.Outcome.{outcome}
use Rattle.bq_load_workers.specs.Brought.{Brought}
use Rattle.bq_load_workers.proofs.pool.WorkerPool.run.Given as goal

abbrev pub invariant-loop : goal.invariant-loop
invariant-loop g l = record {
  seat : IsSeatOf l.self.board l.seat.place;
  brought : Brought g.E.Evaluate.see g.E.Evaluate.see_fault (outcome (g.E.Evaluate.means l.self.evaluator) l.self.graph) (length l.self.graph) (view_of l.fn.seat.place).finished (view_of l.seat.place).finished l.modules.items;
}
