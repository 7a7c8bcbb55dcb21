-- the attributes that are left decide
use Rattle.std.proofs.Common.{◌≡◌, drop}
use Rattle.std.specs.List.{list_all}
use Rattle.bq_package_attributes.specs.Rule.{may_be_named}
use Rattle.bq_package_attributes.proofs.rule.are_named.Given as goal

abbrev pub invariant-loop-place : goal.invariant-loop-place
invariant-loop-place l = list_all (λ e. may_be_named e.0) l.class ≡ list_all (λ e. may_be_named e.0) (drop l.place l.class)
