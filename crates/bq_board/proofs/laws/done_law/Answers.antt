use Rattle.bq_board.proofs.FromRule.{done_says}
use Rattle.bq_board.proofs.laws.done_law.Goals as goal

pub returns : goal.returns
returns g c b p seats s k = done_says g.row.V-Base.Denot g.row.V.Denot g.V.Parcel.belongs b p seats s k
