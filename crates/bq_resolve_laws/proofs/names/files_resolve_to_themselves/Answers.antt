use Rattle.bq_resolve_laws.proofs.ResolvedFiles.{to_themselves}
use Rattle.bq_resolve_laws.proofs.names.files_resolve_to_themselves.Goals as goal

pub returns : goal.returns
returns c = to_themselves
