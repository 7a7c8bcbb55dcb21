use Rattle.std.proofs.Common.{◌≡◌, ◌∷◌, length, sym, ap, arith, rules}
use Rattle.std.proofs.lemmas.List.{length_push}
use Rattle.std.proofs.lemmas.List.Elements.{All-same, All-head, All-tail, All-push}
use Rattle.std.specs.Vec.Iter.{into_iter_items}
use Rattle.core.specs.declared.thread.PromisedHandle.{PromisedHandle}
use Rattle.bq_load_order.specs.Outcome.{outcome}
use Rattle.bq_load_workers.specs.Brought.{IsAnswer}
use Rattle.bq_load_workers.proofs.Promises.{answer_by}
use Rattle.bq_load_workers.proofs.threads.joined.Goals as goal

pub loop-worker-preserved : goal.loop-worker-preserved
loop-worker-preserved g c =
    let e = g.E.Evaluate in
    let pool = c.args.pool.now in
    let P : PromisedHandle _ _ → Type 0 = λ h. (h.promise.evaluator.value ≡ pool.evaluator) × (h.promise.graph.value ≡ pool.graph) in
    let worker = c.in-Some.worker in
    let rest = into_iter_items c.next.new.self in
    let goes : into_iter_items c.loop-worker.worker-iterator ≡ worker ∷ rest = search rules in
    let all = All-same P _ _ (sym goes) c.loop-worker.invariant.workers in
    let kept = All-head P worker rest all in
    let Q = IsAnswer e.see e.see_fault (outcome (e.means pool.evaluator) pool.graph) (length pool.graph) in
    let answer = answer_by e.see e.see_fault e.means worker.promise.evaluator.value pool.evaluator worker.promise.graph.value pool.graph kept.0 kept.1 c.join.result c.join.ensures in
    record {
      count = omega (arith, c.loop-worker.invariant.count, ap length goes, ap length c.in_ok-push.ensures.items, length_push c.loop-worker.answers.items c.join.result);
      workers = All-tail P worker rest all;
      answers = All-same Q _ _ c.in_ok-push.ensures.items (All-push Q c.loop-worker.answers.items c.join.result c.loop-worker.invariant.answers answer);
    }
