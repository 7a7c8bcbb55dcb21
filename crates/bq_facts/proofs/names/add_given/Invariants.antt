use Rattle.std.proofs.Common.{◌≡◌, ◌++◌, drop}
use Rattle.bq_package_target.specs.Value.{labels_in}
use Rattle.bq_facts.proofs.names.add_given.Given as goal

abbrev pub invariant-loop-attribute : goal.invariant-loop-attribute
invariant-loop-attribute l = l.all.items ++ labels_in (drop l.attribute-index l.given) ≡ l.initial.all.items ++ labels_in l.given
