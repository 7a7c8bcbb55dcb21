use Rattle.std.proofs.Common.{◌≡◌, drop}
use Rattle.bq_package_values.specs.Steps.{in_turn}
use Rattle.bq_package.specs.Glob.{pattern, patterns}
use Rattle.bq_package.proofs.glob.patterns.Given as goal

abbrev pub invariant-loop-text : goal.invariant-loop-text
invariant-loop-text l = patterns l.texts ≡ in_turn pattern l.patterns (drop l.text-index l.texts)
