use Rattle.std.proofs.Common.{◌≡◌, ◌++◌, drop}
use Rattle.std.specs.List.{join_by, zip}
use Rattle.bq_package_values.specs.JsonParts.{comma}
use Rattle.bq_facts.specs.ModuleLine.{load_object}
use Rattle.bq_facts.proofs.Loads.{left}
use Rattle.bq_facts.proofs.module_line.push_items.Given as goal

abbrev pub invariant-loop-number : goal.invariant-loop-number
invariant-loop-number l = l.text ++ left l.number (drop l.number l.loads) (drop l.number l.files) ≡ l.initial.text ++ join_by load_object comma (zip l.loads l.files)
