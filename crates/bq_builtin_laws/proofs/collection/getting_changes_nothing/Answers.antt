use Rattle.bq_builtin_laws.proofs.Collections.Getting.{looks}
use Rattle.bq_builtin_laws.proofs.collection.getting_changes_nothing.Goals as goal

pub returns : goal.returns
returns c ps default answer s t g = looks g.home g.number ps g.key default answer s t g.known g.args g.asked g.run
