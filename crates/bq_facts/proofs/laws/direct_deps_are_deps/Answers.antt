use Rattle.bq_facts.proofs.Direct.{direct_deps_are_deps}
use Rattle.bq_facts.proofs.laws.direct_deps_are_deps.Goals as goal

pub returns : goal.returns
returns c = direct_deps_are_deps
