use Rattle.std.proofs.Common.{ℕ, ◌-◌, ◌<◌, ◌≤◌}
use Rattle.bq_board_plan.specs.Counts.{Has}
use Rattle.bq_board.specs.Seats.{SitsAt}
use Rattle.bq_board.specs.Claims.{Saw}
use Rattle.bq_board.proofs.board.Board.claim.Given as goal

abbrev pub invariant-loop-e : goal.invariant-loop-e
invariant-loop-e g l = record {
  seat : SitsAt l.self.table.shared.table_id l.self.table.shared.key.base.value l.self.plan l.seat.place;
  saw : Saw l.fn.seat.place.me.0 l.seat.place.me.0;
  fed : (d : ℕ) → l.from ≤ d → d < l.e → Has l.seat.place.me.0.seen d;
  low : l.from ≤ l.e;
}

abbrev pub decreases-loop-e : goal.decreases-loop-e
decreases-loop-e g l = l.to - l.e
