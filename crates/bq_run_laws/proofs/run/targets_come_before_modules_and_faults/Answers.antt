use Rattle.bq_run_laws.proofs.FactsOrder.{targets_come_first}
use Rattle.bq_run_laws.proofs.run.targets_come_before_modules_and_faults.Goals as goal

pub returns : goal.returns
returns c = targets_come_first
