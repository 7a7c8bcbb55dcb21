-- what is there, with the defaults that are left
use Rattle.std.proofs.Common.{◌≡◌, ◌++◌, drop}
use Rattle.bq_package_attributes.specs.Declarations.{defaults}
use Rattle.bq_package_attributes.proofs.declarations.add_defaults.Given as goal

abbrev pub invariant-loop-place : goal.invariant-loop-place
invariant-loop-place l = l.attributes ++ defaults l.keywords (drop l.place l.class) ≡ l.fn.attributes ++ defaults l.keywords l.class
