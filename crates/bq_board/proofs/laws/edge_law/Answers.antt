use Rattle.bq_board.proofs.FromRule.{edge_says}
use Rattle.bq_board.proofs.laws.edge_law.Goals as goal

pub returns : goal.returns
returns g c b p seats s k = edge_says g.row.V-Base.Denot g.row.V.Denot g.V.Parcel.belongs b p seats s k
