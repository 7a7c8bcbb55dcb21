use Rattle.std.proofs.Common.{arith}
use Rattle.std.proofs.lemmas.Grind.{common_steps}
use Rattle.bq_query_function.proofs.Cuts.{front_cut, front_other}
use Rattle.bq_query_function.proofs.order.cmp_parts.Goals as goal

pub returns-then-not-starts_with : goal.returns-then-not-starts_with
returns-then-not-starts_with c = grind (arith, common_steps, front_other)

pub loop-parts-preserved : goal.loop-parts-preserved
loop-parts-preserved c = grind (arith, common_steps, front_cut)
