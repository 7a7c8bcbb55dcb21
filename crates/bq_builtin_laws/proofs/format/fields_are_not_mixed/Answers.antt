use Rattle.bq_builtin_laws.proofs.Formats.Mixed.{not_mixed}
use Rattle.bq_builtin_laws.proofs.format.fields_are_not_mixed.Goals as goal

pub returns : goal.returns
returns c s n format all named text mixes = not_mixed s n format all named mixes.number text mixes.empty mixes.numbered mixes.number_is
