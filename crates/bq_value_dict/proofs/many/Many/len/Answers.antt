use Rattle.std.proofs.Common.{ap, arith, length}
use Rattle.bq_value_dict.proofs.Empty.{length_live}
use Rattle.bq_value_dict.proofs.many.Many.len.Goals as goal

pub overflow_sub-result : goal.overflow_sub-result
overflow_sub-result c = omega (arith, c.len.ensures.len, c.len-2.ensures, ap length c.self.invariant, length_live 0 c.self.inside.entries.entries)

pub returns : goal.returns
returns c = omega (arith, c.len.ensures.len, c.len-2.ensures, ap length c.self.invariant, length_live 0 c.self.inside.entries.entries, ap length c.self.view_is)
