use Rattle.std.proofs.Common.{◌∙◌, sym, ap, length}
use Rattle.bq_builtin_machine.proofs.Integers.{length-integers}
use Rattle.bq_builtin_machine.proofs.range_walk.RangeWalk.len.Goals as goal

pub returns : goal.returns
returns c = sym (length-integers c.self.inside.next c.self.inside.step c.self.inside.left) ∙ ap length c.self.view_is
