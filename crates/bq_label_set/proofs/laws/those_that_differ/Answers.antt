use Rattle.bq_label_set.proofs.Added.{those_that_differ}
use Rattle.bq_label_set.proofs.laws.those_that_differ.Goals as goal

pub returns : goal.returns
returns c = those_that_differ
