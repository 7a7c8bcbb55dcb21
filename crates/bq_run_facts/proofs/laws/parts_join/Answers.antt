use Rattle.bq_run_facts.proofs.Named.{parts_join}
use Rattle.bq_run_facts.proofs.laws.parts_join.Goals as goal

pub returns : goal.returns
returns c = parts_join
