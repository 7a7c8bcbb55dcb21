use Rattle.std.proofs.Common.{◌≡◌, length}
use Rattle.bq_value.specs.Datum.{string}
use Rattle.bq_value.specs.Pairs.{found}
use Rattle.bq_package_attributes.specs.KeywordArguments.{pairs}
use Rattle.bq_package_attributes.proofs.keyword_arguments.value_of.Given as goal

abbrev pub invariant-loop-named : goal.invariant-loop-named
invariant-loop-named l = found (string l.name) (pairs l.named) ≡ found (string l.name) (pairs l.initial.named)

abbrev pub decreases-loop-named : goal.decreases-loop-named
decreases-loop-named l = length l.named
