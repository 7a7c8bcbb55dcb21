use Rattle.std.proofs.Common.{◌≡◌, ◌+◌, ◌≤◌, drop}
use Rattle.bq_eval_spec.specs.Calls.{placed_of}
use Rattle.bq_eval_rules.proofs.parameters.placed_of.Given as goal

abbrev pub invariant-loop-parameter : goal.invariant-loop-parameter
invariant-loop-parameter l = (l.placed ≤ l.parameter-index) × (l.placed + placed_of (drop l.parameter-index l.parameters) ≡ placed_of l.parameters)
