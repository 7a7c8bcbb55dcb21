use Rattle.std.proofs.Common.{arith}
use Rattle.bq_builtin.proofs.OfRanges.{two_or_more}
use Rattle.bq_builtin.proofs.truths.any_in_range.Goals as goal

pub returns-in_default : goal.returns-in_default
returns-in_default c = λ s. two_or_more s c.args.range.start c.args.range.stop c.args.range.step c.count.result c.count.ensures (omega arith)
