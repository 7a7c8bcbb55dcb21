use Rattle.std.proofs.Common.{Ok, refl}
use Rattle.bq_parse_grammar.specs.Pieces.{pieces}
use Rattle.bq_parse_laws.proofs.FileDepths.{file_within}
use Rattle.bq_eval_laws.proofs.Fitting.{file_fits}
use Rattle.bq_eval_laws.proofs.file_depth.no_resolved_file_is_too_deep.Goals as goal

pub returns : goal.returns
returns c = λ kind ts xs universe file p e. file_fits universe xs file (file_within kind (pieces ts) xs (Ok xs) refl p) e
