use Rattle.bq_resolve_laws.proofs.FaultyFiles.{first_violation, without_violations}
use Rattle.bq_resolve_laws.proofs.names.faults_are_first_violations.Goals as goal

pub returns : goal.returns
returns c = record { first = first_violation; none = without_violations }
