use Rattle.bq_label_set.proofs.Added.{the_labels_added}
use Rattle.bq_label_set.proofs.laws.the_labels_added.Goals as goal

pub returns : goal.returns
returns c = the_labels_added
