use Rattle.bq_label.proofs.ShortNames.{short_names}
use Rattle.bq_label.proofs.laws.short_names_have_one_owner.Goals as goal

pub returns : goal.returns
returns c = λ packages own n m no_n no_m. short_names packages own n m no_n no_m
