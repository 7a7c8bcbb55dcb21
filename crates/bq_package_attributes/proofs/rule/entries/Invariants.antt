-- the pairs that are left decide, and their keys name no attribute so far
use Rattle.bq_package_attributes.proofs.Building.{Left}
use Rattle.bq_package_attributes.proofs.rule.entries.Given as goal

abbrev pub invariant-loop-i : goal.invariant-loop-i
invariant-loop-i l = Left l.dict l.i l.attributes
