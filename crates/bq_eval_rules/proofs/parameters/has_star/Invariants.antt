use Rattle.std.proofs.Common.{◌≡◌, drop}
use Rattle.bq_eval_spec.specs.Calls.{has_star}
use Rattle.bq_eval_rules.proofs.parameters.has_star.Given as goal

abbrev pub invariant-loop-parameter : goal.invariant-loop-parameter
invariant-loop-parameter l = has_star (drop l.parameter-index l.parameters) ≡ has_star l.parameters
