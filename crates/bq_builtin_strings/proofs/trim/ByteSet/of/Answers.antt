use Rattle.std.proofs.Common.{◌∙◌, true, get_or, refl, arith, length-set}
use Rattle.bq_builtin_strings.proofs.Marks.{absent, marked}
use Rattle.bq_builtin_strings.proofs.trim.ByteSet.of.Goals as goal

pub loop-byte-init : goal.loop-byte-init
loop-byte-init c = (refl, λ k l. absent 256 k)

pub loop-byte-preserved : goal.loop-byte-preserved
loop-byte-preserved c = (
  length-set c.loop-byte.has (get_or c.args.set.now c.loop-byte.byte-index 0) true ∙ c.loop-byte.invariant.0,
  λ k l. marked c.loop-byte.has c.args.set.now c.loop-byte.byte-index k c.loop-byte-test.true (omega (arith, c.loop-byte.invariant.0, c.type_inv.set c.loop-byte.byte-index)) (c.loop-byte.invariant.1 k l),
)
