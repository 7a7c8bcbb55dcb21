use Rattle.std.proofs.Common.{rules}
use Rattle.std.specs.Prelude.{FitsSigned}
use Rattle.std.specs.Int.{w64}
use Rattle.bq_builtin_machine.proofs.Integers.{held_next_fits}
use Rattle.bq_builtin_machine.proofs.range_walk.RangeWalk.next.Goals as goal

pub overflow_add-self : goal.overflow_add-self
overflow_add-self c =
    let next : FitsSigned w64 c.self.inside.next = search rules in
    let step : FitsSigned w64 c.self.inside.step = search rules in
    held_next_fits c.self.inside.next c.self.inside.step c.self.inside.left next step c.self.invariant c.if-self-gt0.true
