use Rattle.bq_resolve_laws.proofs.Depths.Files.{none_too_deep}
use Rattle.bq_resolve_laws.proofs.depth.no_file_is_too_deep.Goals as goal

pub returns : goal.returns
returns c = none_too_deep
