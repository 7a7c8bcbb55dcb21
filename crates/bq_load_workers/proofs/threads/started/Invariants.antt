use Rattle.std.proofs.Common.{◌≡◌, All}
use Rattle.std.specs.Vec.Iter.{into_iter_items}
use Rattle.bq_board.specs.Seats.{IsSeatOf}
use Rattle.bq_load_workers.proofs.threads.started.Given as goal

abbrev pub invariant-loop-seat : goal.invariant-loop-seat
invariant-loop-seat g l = record {
  seats : All (λ s. IsSeatOf l.pool.board s.place) (into_iter_items l.seat-iterator);
  workers : All (λ h. (h.promise.evaluator.value ≡ l.pool.evaluator) × (h.promise.graph.value ≡ l.pool.graph)) l.workers.items;
}
