use Rattle.std.proofs.Common.{◌∙◌, sym, arith}
use Rattle.bq_builtin_format.proofs.Digits.{none_there, value_at, value_there}
use Rattle.bq_builtin_format.proofs.argument.numbered_value.Goals as goal

pub returns-in_err-number : goal.returns-in_err-number
returns-in_err-number c =
    rw c.from_residual.ensures (sym (none_there c.args.values.now c.args.digits.now c.loop-digit.number c.loop-digit.digit-index c.loop-digit-test.true (omega arith) c.in_err-number.ensures c.loop-digit.invariant.same))

pub returns : goal.returns
returns c =
    value_at c.args.values.now c.get.result c.loop-digit.number (c.get.ensures.lookup.3)
    ∙ value_there c.args.values.now c.args.digits.now c.loop-digit.number c.loop-digit.digit-index c.loop-digit-test.false c.loop-digit.invariant.same
