use Rattle.std.proofs.Common.{arith}
use Rattle.bq_board.proofs.Keeps.{counts}
use Rattle.bq_board.proofs.board.Board.done.Goals as goal

pub load-requires : goal.load-requires
load-requires g c = let b = c.args.self.now in (c.requires.table, omega arith, rw b.key (counts g.row.V-Base.Denot g.row.V.Denot g.V.Parcel.belongs b.table.shared.key.base.value b.plan b.table.shared.key.seats.value _ _ _))
