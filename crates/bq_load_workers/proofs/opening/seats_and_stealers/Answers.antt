use Rattle.std.proofs.Common.{◌≡◌, ◌+◌, List, length, sym, subst, arith, ap, ◌∙◌, All}
use Rattle.std.proofs.lemmas.List.{length_push}
use Rattle.std.proofs.lemmas.List.Elements.{All-pop, All-push}
use Rattle.std.specs.Option.{option_to_list}
use Rattle.bq_board.specs.Board.{blank}
use Rattle.bq_board.specs.Seats.{IsSeatOf, base_of, view_of}
use Rattle.bq_load_workers.specs.declared.pool.WorkerSeat.{WorkerSeat}
use Rattle.bq_load_workers.proofs.Bringing.{if_some}
use Rattle.bq_load_workers.proofs.opening.seats_and_stealers.Goals as goal

pub loop-i-preserved : goal.loop-i-preserved
loop-i-preserved g c =
    let popped = All-pop (λ s. IsSeatOf c.args.board.now s × (view_of s ≡ blank (base_of c.args.board.now) c.args.board.now.plan)) c.loop-i.places.items c.pop.new.self.items c.pop.result c.pop.ensures.items c.loop-i.invariant.old in
    let one = if_some (λ s. IsSeatOf c.args.board.now s × (view_of s ≡ blank (base_of c.args.board.now) c.args.board.now.plan)) c.pop.result c.unwrap-place.result c.unwrap-place.ensures popped.1 in record {
      count = ap length c.in_ok-push.ensures.items ∙ length_push _ _ ∙ ap (λ n. n + 1) c.loop-i.invariant.count;
      left = omega (arith, c.pop.ensures.len, ap (λ o. length (option_to_list o)) c.unwrap-place.ensures, c.loop-i.invariant.left, c.loop-i.places.ok, c.pop.new.self.ok);
      old = popped.0;
      fresh = subst (λ (ss : List (WorkerSeat _ _ _)). All (λ s. IsSeatOf c.args.board.now s.place × (view_of s.place ≡ blank (base_of c.args.board.now) c.args.board.now.plan)) ss) (sym c.in_ok-push.ensures.items)
          (All-push (λ s. IsSeatOf c.args.board.now s.place × (view_of s.place ≡ blank (base_of c.args.board.now) c.args.board.now.plan)) c.loop-i.seats.items _ c.loop-i.invariant.fresh one);
    }
