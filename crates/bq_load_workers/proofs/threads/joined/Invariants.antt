use Rattle.std.proofs.Common.{◌≡◌, ◌+◌, All, length}
use Rattle.std.specs.Vec.Iter.{into_iter_items}
use Rattle.bq_load_order.specs.Outcome.{outcome}
use Rattle.bq_load_workers.specs.Brought.{IsAnswer}
use Rattle.bq_load_workers.proofs.threads.joined.Given as goal

abbrev pub invariant-loop-worker : goal.invariant-loop-worker
invariant-loop-worker g l = record {
  count : length l.answers.items + length (into_iter_items l.worker-iterator) ≡ length l.fn.workers.items;
  workers : All (λ h. (h.promise.evaluator.value ≡ l.pool.evaluator) × (h.promise.graph.value ≡ l.pool.graph)) (into_iter_items l.worker-iterator);
  answers : All (IsAnswer g.E.Evaluate.see g.E.Evaluate.see_fault (outcome (g.E.Evaluate.means l.pool.evaluator) l.pool.graph) (length l.pool.graph)) l.answers.items;
}
