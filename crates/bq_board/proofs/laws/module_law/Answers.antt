use Rattle.bq_board.proofs.FromRule.{module_says}
use Rattle.bq_board.proofs.laws.module_law.Goals as goal

pub returns : goal.returns
returns g c b p seats s k = module_says g.row.V-Base.Denot g.row.V.Denot g.V.Parcel.belongs b p seats s k
