use Rattle.bq_board.proofs.FromRule.{owner_says}
use Rattle.bq_board.proofs.laws.owner_law.Goals as goal

pub returns : goal.returns
returns g c b p seats s k = owner_says g.row.V-Base.Denot g.row.V.Denot g.V.Parcel.belongs b p seats s k
