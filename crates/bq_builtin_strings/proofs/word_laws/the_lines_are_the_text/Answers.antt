use Rattle.bq_builtin_strings.proofs.LineCuts.{joined}
use Rattle.bq_builtin_strings.proofs.word_laws.the_lines_are_the_text.Goals as goal

pub returns : goal.returns
returns c = joined
