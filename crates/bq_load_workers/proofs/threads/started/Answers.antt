use Rattle.std.proofs.Common.{◌≡◌, ◌∷◌, rules}
use Rattle.std.proofs.lemmas.List.Elements.{All-same, All-rest, All-push}
use Rattle.std.specs.Vec.Iter.{into_iter_items}
use Rattle.core.specs.declared.thread.PromisedHandle.{PromisedHandle}
use Rattle.bq_board.specs.Seats.{IsSeatOf}
use Rattle.bq_load_workers.specs.declared.pool.WorkerSeat.{WorkerSeat}
use Rattle.bq_load_workers.proofs.threads.started.Goals as goal

-- no thread was started
pub loop-seat-preserved : goal.loop-seat-preserved
loop-seat-preserved g c =
    let P : WorkerSeat _ _ _ → Type 0 = λ s. IsSeatOf c.args.pool.now.board s.place in
    let rest = into_iter_items c.next.new.self in
    let goes : into_iter_items c.loop-seat.seat-iterator ≡ c.in-Some.seat ∷ rest = search rules in
    record {
      seats = All-rest P c.in-Some.seat rest _ goes c.loop-seat.invariant.seats;
      workers = c.loop-seat.invariant.workers;
    }

-- one was
pub loop-seat-preserved-in-Continue-1 : goal.loop-seat-preserved-in-Continue-1
loop-seat-preserved-in-Continue-1 g c =
    let P : WorkerSeat _ _ _ → Type 0 = λ s. IsSeatOf c.args.pool.now.board s.place in
    let Q : PromisedHandle _ _ → Type 0 = λ h. (h.promise.evaluator.value ≡ c.args.pool.now.evaluator) × (h.promise.graph.value ≡ c.args.pool.now.graph) in
    let rest = into_iter_items c.next.new.self in
    let goes : into_iter_items c.loop-seat.seat-iterator ≡ c.in-Some.seat ∷ rest = search rules in
    record {
      seats = All-rest P c.in-Some.seat rest _ goes c.loop-seat.invariant.seats;
      workers = All-same Q _ _ c.in_ok-push-in-Some-start.ensures.items (All-push Q c.loop-seat.workers.items c.in-Some-start.worker c.loop-seat.invariant.workers c.in-Some-start.ensures);
    }
