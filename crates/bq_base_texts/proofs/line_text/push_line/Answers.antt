use Rattle.std.proofs.Common.{arith}
use Rattle.std.proofs.lemmas.Grind.{common_steps}
use Rattle.bq_base_texts.specs.LineText.{line_text}
use Rattle.bq_base_texts.proofs.line_text.push_line.Goals as goal

pub returns : goal.returns
unfolding line_text
returns c = grind (arith, common_steps)
