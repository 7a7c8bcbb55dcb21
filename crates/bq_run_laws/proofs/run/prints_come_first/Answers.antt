use Rattle.bq_run_laws.proofs.Written.{prints_first}
use Rattle.bq_run_laws.proofs.run.prints_come_first.Goals as goal

pub returns : goal.returns
returns c = prints_first
