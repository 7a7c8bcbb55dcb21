use Rattle.std.proofs.Common.{arith}
use Rattle.bq_eval_spec.specs.Calls.{max_active}
use Rattle.bq_eval_spec.specs.Module.{eval_top, module_meaning}
use Rattle.bq_eval_frame.proofs.Slots.{none_filled}
use Rattle.bq_eval_rules.specs.Round.{evals, outside_functions, units_at}
use Rattle.bq_eval.specs.Outcomes.{program_run}
use Rattle.bq_eval.proofs.run.run_program.Goals as goal

pub returns-in_err-_flow : goal.returns-in_err-_flow
unfolding program_run module_meaning eval_top max_active evals outside_functions units_at
returns-in_err-_flow g c = grind (arith, none_filled)

pub returns : goal.returns
unfolding program_run module_meaning eval_top max_active evals outside_functions units_at
returns g c = grind (arith, none_filled)
