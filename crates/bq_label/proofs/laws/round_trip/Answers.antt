use Rattle.bq_label.proofs.Readings.{full_form_reads}
use Rattle.bq_label.proofs.laws.round_trip.Goals as goal

pub returns : goal.returns
returns c = full_form_reads
