use Rattle.std.proofs.Common.{◌∙◌, ap, not}
use Rattle.bq_builtin.proofs.OfRanges.{all_in_range_is}
use Rattle.bq_builtin.proofs.truths.all_in_range.Goals as goal

pub returns : goal.returns
returns c = λ s. ap not c.range_has.ensures ∙ all_in_range_is s c.args.range.start c.args.range.stop c.args.range.step
