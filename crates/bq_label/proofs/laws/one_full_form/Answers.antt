use Rattle.bq_label.proofs.Readings.{one_full_form}
use Rattle.bq_label.proofs.laws.one_full_form.Goals as goal

pub returns : goal.returns
returns c = one_full_form
