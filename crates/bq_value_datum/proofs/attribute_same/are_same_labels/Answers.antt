use Rattle.std.proofs.Common.{sym, arith}
use Rattle.std.proofs.lemmas.Grind.{common_steps}
use Rattle.bq_value_datum.proofs.LabelLengths.{apart}
use Rattle.bq_value_datum.proofs.attribute_same.are_same_labels.Goals as goal

pub returns-then-a-b : goal.returns-then-a-b
returns-then-a-b c = sym (apart c.args.a.now c.args.b.now c.if-a-b.true)

pub loop-i-preserved : goal.loop-i-preserved
loop-i-preserved c = grind (arith, common_steps)

pub returns-then-not-is_same_label : goal.returns-then-not-is_same_label
returns-then-not-is_same_label c = grind (arith, common_steps)

pub returns : goal.returns
returns c = grind (arith, common_steps)
