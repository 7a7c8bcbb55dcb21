use Rattle.std.proofs.Common.{arith}
use Rattle.std.proofs.lemmas.Grind.{common_steps}
use Rattle.bq_base_texts.proofs.line_text.push_detail.Goals as goal

pub returns : goal.returns
returns c = grind (arith, common_steps)
