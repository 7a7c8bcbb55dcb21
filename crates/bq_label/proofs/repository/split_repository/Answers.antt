use Rattle.std.proofs.Common.{arith}
use Rattle.bq_label.specs.Packages.{split_repository}
use Rattle.std.proofs.lemmas.Grind.{common_steps}
use Rattle.bq_label.proofs.repository.split_repository.Goals as goal

pub returns-then-not-starts_with : goal.returns-then-not-starts_with
unfolding split_repository
returns-then-not-starts_with c = grind (arith, common_steps)

pub returns-in_default : goal.returns-in_default
unfolding split_repository
returns-in_default c = grind (arith, common_steps)

pub returns-then-is_empty : goal.returns-then-is_empty
unfolding split_repository
returns-then-is_empty c = grind (arith, common_steps)

pub returns : goal.returns
unfolding split_repository
returns c = grind (arith, common_steps)
