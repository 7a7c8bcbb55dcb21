use Rattle.std.proofs.Common.{rules}
use Rattle.bq_builtin.proofs.truths.any_in.Goals as goal

pub returns-in-Range : goal.returns-in-Range
returns-in-Range c = let same = c.any_in_range.ensures c.args.store.now in search (rules, same)
