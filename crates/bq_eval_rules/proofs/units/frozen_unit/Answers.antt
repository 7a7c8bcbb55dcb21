use Rattle.std.proofs.Common.{arith}
use Rattle.std.proofs.lemmas.Grind.{common_steps}
use Rattle.bq_eval_rules.specs.Round.{globals_of}
use Rattle.std.proofs.lemmas.List.{drop_min, take_min}
use Rattle.bq_eval_rules.proofs.units.frozen_unit.Goals as goal

pub returns : goal.returns
unfolding globals_of
returns c = grind (arith, common_steps, take_min, drop_min)
