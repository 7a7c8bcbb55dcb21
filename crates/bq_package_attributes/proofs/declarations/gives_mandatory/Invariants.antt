-- the attributes that are left decide
use Rattle.std.proofs.Common.{◌≡◌, drop}
use Rattle.std.specs.List.{list_all}
use Rattle.bq_package_attributes.specs.Declarations.{is_met}
use Rattle.bq_package_attributes.proofs.declarations.gives_mandatory.Given as goal

abbrev pub invariant-loop-place : goal.invariant-loop-place
invariant-loop-place l = list_all (is_met l.keywords) l.class ≡ list_all (is_met l.keywords) (drop l.place l.class)
