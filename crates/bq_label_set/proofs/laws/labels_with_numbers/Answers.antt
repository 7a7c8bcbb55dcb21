use Rattle.bq_label_set.proofs.Numbers.{labels_with_numbers}
use Rattle.bq_label_set.proofs.laws.labels_with_numbers.Goals as goal

pub returns : goal.returns
returns c = labels_with_numbers
