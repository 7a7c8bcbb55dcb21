use Rattle.std.proofs.Common.{arith}
use Rattle.bq_board.proofs.Keeps.{adds}
use Rattle.bq_board.proofs.board.Board.finish_as.Goals as goal

pub fetch_add-requires : goal.fetch_add-requires
fetch_add-requires g c = let b = c.args.self.now in
    (c.requires.seat.table, omega arith, rw b.key (adds g.row.V-Base.Denot g.row.V.Denot g.V.Parcel.belongs b.table.shared.key.base.value b.plan b.table.shared.key.seats.value _ _ _ _ c.requires.claimed c.requires.once c.requires.out))
