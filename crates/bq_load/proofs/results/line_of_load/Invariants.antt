use Rattle.std.proofs.Common.{◌≡◌, drop}
use Rattle.bq_load.specs.Results.{line_of_load}
use Rattle.bq_load.proofs.results.line_of_load.Given as goal

abbrev pub invariant-loop-number : goal.invariant-loop-number
invariant-loop-number l = line_of_load l.label (drop l.number l.loads) (drop l.number l.files) ≡ line_of_load l.label l.loads l.files
