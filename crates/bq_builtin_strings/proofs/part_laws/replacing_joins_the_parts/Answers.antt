use Rattle.bq_builtin_strings.proofs.Joining.{replaced}
use Rattle.bq_builtin_strings.proofs.part_laws.replacing_joins_the_parts.Goals as goal

pub returns : goal.returns
returns c = λ old new text most. replaced old new most text
