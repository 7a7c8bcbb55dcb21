use Rattle.std.proofs.Common.{arith}
use Rattle.std.proofs.lemmas.Grind.{common_steps}
use Rattle.bq_label_glob.specs.Pattern.{has_two_stars}
use Rattle.bq_label_glob.proofs.pattern.has_two_stars.Goals as goal

pub loop-rest-preserved : goal.loop-rest-preserved
unfolding has_two_stars
loop-rest-preserved c = grind (arith, common_steps)
