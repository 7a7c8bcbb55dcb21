use Rattle.std.proofs.Common.{arith}
use Rattle.std.proofs.lemmas.Grind.{common_steps}
use Rattle.bq_parse.proofs.Reversed.{reverse_last, reverse_reversed}
use Rattle.bq_parse.proofs.targets.Targets.all.Goals as goal

pub exprs-preserved : goal.exprs-preserved
exprs-preserved g c = grind (arith, common_steps, reverse_last, reverse_reversed)

pub returns : goal.returns
returns g c = grind (arith, common_steps, reverse_last, reverse_reversed)
