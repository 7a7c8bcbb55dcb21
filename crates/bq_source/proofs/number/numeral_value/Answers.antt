use Rattle.std.proofs.Common.{rules, ◌≡◌, ◌≤◌, ◌∙◌, None, arith}
use Rattle.bq_source.specs.Number.{numeral_value}
use Rattle.bq_source.proofs.Numerals.{refused}
use Rattle.std.proofs.lemmas.Grind.{common_steps}
use Rattle.bq_source.proofs.number.numeral_value.Goals as goal

pub returns-in_err-value : goal.returns-in_err-value
returns-in_err-value c =
    let one : 1 ≤ c.args.base = omega arith in
    let none : numeral_value c.args.base c.args.digits.now ≡ None =
    c.loop-digit.invariant.same ∙ refused c.args.base c.loop-digit.value c.args.digits.now c.loop-digit.digit-index c.loop-digit-test.true one c.in_err-value.ensures in
    rw none (search rules)

pub loop-digit-preserved : goal.loop-digit-preserved
unfolding numeral_value
loop-digit-preserved c = grind (arith, common_steps)
