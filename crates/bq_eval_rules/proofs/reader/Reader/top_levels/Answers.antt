use Rattle.std.proofs.Common.{arith}
use Rattle.std.proofs.lemmas.Grind.{common_steps}
use Rattle.bq_eval_spec.specs.Module.{top_levels}
use Rattle.bq_eval_rules.proofs.reader.Reader.top_levels.Goals as goal

pub loop-stmt-init : goal.loop-stmt-init
unfolding top_levels
loop-stmt-init g c = grind (arith, common_steps)

pub loop-stmt-preserved : goal.loop-stmt-preserved
unfolding top_levels
loop-stmt-preserved g c = grind (arith, common_steps)

pub returns-in_err-top_level : goal.returns-in_err-top_level
unfolding top_levels
returns-in_err-top_level g c = grind (arith, common_steps)

pub returns : goal.returns
unfolding top_levels
returns g c = grind (arith, common_steps)
