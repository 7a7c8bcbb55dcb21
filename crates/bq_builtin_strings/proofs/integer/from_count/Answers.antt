use Rattle.bq_builtin_strings.proofs.Fits.{count_fits, count_is_too_great}
use Rattle.std.proofs.Common.{arith}
use Rattle.bq_builtin_strings.proofs.integer.from_count.Goals as goal

pub returns-then-count-gt-MAX : goal.returns-then-count-gt-MAX
returns-then-count-gt-MAX c = count_is_too_great c.args.count (omega arith)

pub returns : goal.returns
returns c = count_fits c.args.count (omega arith)
