use Rattle.bq_board.proofs.FromRule.{seats_say}
use Rattle.bq_board.proofs.laws.seat_law.Goals as goal

pub returns : goal.returns
returns g c b p seats s k = seats_say g.row.V-Base.Denot g.row.V.Denot g.V.Parcel.belongs b p seats s k
