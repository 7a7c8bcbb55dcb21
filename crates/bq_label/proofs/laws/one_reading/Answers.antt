use Rattle.bq_label.proofs.Readings.{one_label}
use Rattle.bq_label.proofs.laws.one_reading.Goals as goal

pub returns : goal.returns
returns c = one_label
