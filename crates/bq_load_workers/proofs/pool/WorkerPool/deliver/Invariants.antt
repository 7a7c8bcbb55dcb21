use Rattle.std.proofs.Common.{◌≡◌, ◌+◌, length, All}
use Rattle.bq_board.specs.Seats.{IsSeatOf, view_of}
use Rattle.bq_board.specs.Conditions.{Delivers}
use Rattle.bq_load_order.specs.Outcome.{outcome}
use Rattle.bq_load_workers.specs.Work.{IsImport}
use Rattle.bq_load_workers.proofs.pool.WorkerPool.deliver.Given as goal

abbrev pub invariant-loop-e : goal.invariant-loop-e
invariant-loop-e g l = record {
  seat : IsSeatOf l.self.board l.seat;
  done : Delivers (view_of l.fn.seat) l.out l.e-index (view_of l.seat);
  count : length l.copies.items + l.e-index ≡ length l.out;
  copies : All (λ x. IsImport g.E.Evaluate.see (outcome (g.E.Evaluate.means l.self.evaluator) l.self.graph) l.m x.number x.value) l.copies.items;
}
