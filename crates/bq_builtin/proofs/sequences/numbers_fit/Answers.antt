use Rattle.std.proofs.Common.{◌∙◌, ap, ℤ, pos, arith}
use Rattle.std.specs.Prelude.{◌-ℤ◌, unsigned_abs}
use Rattle.std.specs.Int.{w64}
use Rattle.std.proofs.lemmas.Int.{ints, to_z-of_z}
use Rattle.bq_builtin.proofs.Numbers.{numbers_are_fit, numbers_are_not_fit}
use Rattle.bq_builtin.proofs.sequences.numbers_fit.Goals as goal

pub returns-then-count-abs_diff-clause-says : goal.returns-then-count-abs_diff-clause-says
returns-then-count-abs_diff-clause-says c =
    numbers_are_not_fit c.args.start c.args.count c.abs_diff.result c.ranges.start (c.abs_diff.ensures ∙ ap (λ (z : ℤ). unsigned_abs (pos 9223372036854775807 -ℤ z)) (to_z-of_z w64 c.args.start c.ranges.start))
    (omega (arith, ints, c.if-count-abs_diff.true))

pub returns-clause-says : goal.returns-clause-says
returns-clause-says c =
    numbers_are_fit c.args.start c.args.count c.abs_diff.result c.ranges.start (c.abs_diff.ensures ∙ ap (λ (z : ℤ). unsigned_abs (pos 9223372036854775807 -ℤ z)) (to_z-of_z w64 c.args.start c.ranges.start))
    (omega (arith, ints, c.if-count-abs_diff.false))
