-- the arguments that are left decide
use Rattle.std.proofs.Common.{◌≡◌, drop}
use Rattle.bq_package.specs.Groups.{is_name_first}
use Rattle.bq_package.proofs.groups.is_name_first.Given as goal

abbrev pub invariant-loop-name : goal.invariant-loop-name
invariant-loop-name l = is_name_first l.named ≡ is_name_first (drop l.name-index l.named)
