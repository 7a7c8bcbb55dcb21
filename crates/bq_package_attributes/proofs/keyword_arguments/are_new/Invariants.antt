use Rattle.std.proofs.Common.{◌≡◌, [], take, drop}
use Rattle.bq_package_attributes.specs.KeywordArguments.{pairs, are_new}
use Rattle.bq_package_attributes.proofs.keyword_arguments.are_new.Given as goal

abbrev pub invariant-loop-at : goal.invariant-loop-at
invariant-loop-at l = are_new [] l.named ≡ are_new (pairs (take l.at l.named)) (drop l.at l.named)
