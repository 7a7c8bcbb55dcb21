use Rattle.bq_board.proofs.FromRule.{note_says}
use Rattle.bq_board.proofs.laws.note_law.Goals as goal

pub returns : goal.returns
returns g c b p seats s k = note_says g.row.V-Base.Denot g.row.V.Denot g.V.Parcel.belongs b p seats s k
