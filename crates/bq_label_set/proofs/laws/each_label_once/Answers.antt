use Rattle.bq_label_set.proofs.Added.{each_label_once}
use Rattle.bq_label_set.proofs.laws.each_label_once.Goals as goal

pub returns : goal.returns
returns c = each_label_once
