use Rattle.bq_label.proofs.Readings.{label_from_reading, reading_from_label}
use Rattle.bq_label.proofs.laws.forms_of_a_label.Goals as goal

pub returns : goal.returns
returns c = λ own text l. (reading_from_label own text l, label_from_reading own text l)
