use Rattle.std.proofs.Common.{arith}
use Rattle.std.proofs.lemmas.Grind.{common_steps}
use Rattle.bq_label.proofs.FullForms.{ended_at}
use Rattle.bq_label.proofs.order.cmp_ended.Goals as goal

pub returns : goal.returns
returns c = grind (arith, common_steps, ended_at)
