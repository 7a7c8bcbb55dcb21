-- the parameters that are left decide
use Rattle.std.proofs.Common.{◌≡◌, ◌≤◌, drop}
use Rattle.std.specs.List.{position_from}
use Rattle.bq_builtin_machine.specs.Parameters.{is_called}
use Rattle.bq_eval_spec.specs.Calls.{singles}
use Rattle.bq_eval_rules.proofs.direct.parameter_called.Given as goal

abbrev pub invariant-loop-parameter : goal.invariant-loop-parameter
invariant-loop-parameter l = (l.place ≤ l.parameter-index) × (position_from (is_called l.name) l.place (singles (drop l.parameter-index l.parameters)) ≡ position_from (is_called l.name) 0 (singles l.parameters))
