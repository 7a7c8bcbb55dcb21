use Rattle.std.proofs.Common.{arith, FitsSigned, w64}
use Rattle.std.proofs.lemmas.Int.{ints, to_z-of_z}
use Rattle.bq_builtin_strings.proofs.Bounds.{has_no_step, has_within, has_outside}
use Rattle.bq_builtin_strings.proofs.range.range_has.Goals as goal

pub returns-then-range-eq0 : goal.returns-then-range-eq0
returns-then-range-eq0 c = has_no_step c.args.range.start c.args.range.stop c.args.range.step c.args.n (omega (arith, ints))

pub returns-then-is_between : goal.returns-then-is_between
returns-then-is_between c =
    let f : FitsSigned w64 c.args.n = c.ranges.n in
    has_within c.args.range.start c.args.range.stop c.args.range.step c.args.n c.is_between.result c.is_some_steps_on.result
    (λ e. omega (arith, ints, e)) (rw (to_z-of_z w64 c.args.n f) at c.is_between.ensures) c.if-is_between.true (rw (to_z-of_z w64 c.args.n f) at c.is_some_steps_on.ensures)

pub returns-else-is_between : goal.returns-else-is_between
returns-else-is_between c =
    let f : FitsSigned w64 c.args.n = c.ranges.n in
    has_outside c.args.range.start c.args.range.stop c.args.range.step c.args.n c.is_between.result
    (λ e. omega (arith, ints, e)) (rw (to_z-of_z w64 c.args.n f) at c.is_between.ensures) c.if-is_between.false
