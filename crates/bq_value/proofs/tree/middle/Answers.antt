use Rattle.std.proofs.Common.{arith}
use Rattle.bq_value.proofs.Tries.{low}
use Rattle.bq_value.proofs.tree.middle.Goals as goal

pub overflow_shl-result : goal.overflow_shl-result
overflow_shl-result c = omega (arith, low c.args.height c.args.base c.requires.fits, c.requires.above)
