use Rattle.std.proofs.Common.{◌≡◌, ◌++◌, length}
use Rattle.bq_package_values.specs.JsonString.{escaped}
use Rattle.bq_package_values.proofs.json_string.push_escaped.Given as goal

abbrev pub invariant-loop-rest : goal.invariant-loop-rest
invariant-loop-rest l = l.text.items ++ escaped l.rest ≡ l.initial.text.items ++ escaped l.initial.rest

abbrev pub decreases-loop-rest : goal.decreases-loop-rest
decreases-loop-rest l = length l.rest
