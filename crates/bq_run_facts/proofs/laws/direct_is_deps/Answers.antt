use Rattle.bq_run_facts.proofs.Direct.{direct_is_deps}
use Rattle.bq_run_facts.proofs.laws.direct_is_deps.Goals as goal

pub returns : goal.returns
returns c = direct_is_deps
