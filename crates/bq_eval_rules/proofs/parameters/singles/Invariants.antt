use Rattle.std.proofs.Common.{◌≡◌, ◌++◌, drop, map}
use Rattle.bq_builtin_machine.specs.Parameters.{parameter_of}
use Rattle.bq_eval_spec.specs.Calls.{singles}
use Rattle.bq_eval_rules.proofs.parameters.singles.Given as goal

abbrev pub invariant-loop-parameter : goal.invariant-loop-parameter
invariant-loop-parameter l = map parameter_of l.all.items ++ singles (drop l.parameter-index l.parameters) ≡ singles l.parameters
