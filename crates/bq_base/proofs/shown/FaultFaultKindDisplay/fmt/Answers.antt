use Rattle.std.proofs.Common.{arith}
use Rattle.std.proofs.lemmas.Grind.{common_steps}
use Rattle.bq_base.proofs.shown.FaultFaultKindDisplay.fmt.Goals as goal

pub returns-in_ok-write-2-clause-writes : goal.returns-in_ok-write-2-clause-writes
returns-in_ok-write-2-clause-writes g c = grind (arith, common_steps)
