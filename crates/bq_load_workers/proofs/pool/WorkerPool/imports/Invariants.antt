use Rattle.std.proofs.Common.{map}
use Rattle.bq_board.specs.Seats.{IsSeatOf, view_of}
use Rattle.bq_board.specs.Conditions.{Collects}
use Rattle.bq_load_order.specs.Outcome.{outcome}
use Rattle.bq_load_workers.proofs.Imports.{Came}
use Rattle.bq_load_workers.proofs.pool.WorkerPool.imports.Given as goal

abbrev pub invariant-loop-e : goal.invariant-loop-e
invariant-loop-e g l = record {
  seat : IsSeatOf l.self.board l.seat;
  done : Collects l.self.board.plan (view_of l.fn.seat) l.m l.e (view_of l.seat);
  came : Came (outcome (g.E.Evaluate.means l.self.evaluator) l.self.graph) l.self.board.plan l.m l.e (map (λ a. g.E.Evaluate.see a.value) l.imports.items);
}
