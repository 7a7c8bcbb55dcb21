use Rattle.bq_label_set.proofs.Added.{numbers_stay}
use Rattle.bq_label_set.proofs.laws.numbers_stay.Goals as goal

pub returns : goal.returns
returns c = numbers_stay
