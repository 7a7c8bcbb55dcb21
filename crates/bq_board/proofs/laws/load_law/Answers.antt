use Rattle.bq_board.proofs.FromRule.{load_says}
use Rattle.bq_board.proofs.laws.load_law.Goals as goal

pub returns : goal.returns
returns g c b p seats s k = load_says g.row.V-Base.Denot g.row.V.Denot g.V.Parcel.belongs b p seats s k
