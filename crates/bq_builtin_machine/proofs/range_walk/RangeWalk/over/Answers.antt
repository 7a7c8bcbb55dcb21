use Rattle.std.proofs.Common.{rules}
use Rattle.std.specs.Prelude.{FitsSigned}
use Rattle.std.specs.Int.{w64}
use Rattle.bq_builtin_machine.proofs.Integers.{held_elements_fit}
use Rattle.bq_builtin_machine.proofs.range_walk.RangeWalk.over.Goals as goal

pub invariant_of-result : goal.invariant_of-result
invariant_of-result c =
    let start : FitsSigned w64 c.args.range.start = search rules in
    let stop : FitsSigned w64 c.args.range.stop = search rules in
    let step : FitsSigned w64 c.args.range.step = search rules in
    held_elements_fit c.args.range.start c.args.range.stop c.args.range.step c.count.result start stop step c.count.ensures
