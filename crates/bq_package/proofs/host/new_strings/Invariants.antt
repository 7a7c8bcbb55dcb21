-- the values so far, with those that are left
use Rattle.std.proofs.Common.{◌≡◌, ◌++◌, map}
use Rattle.bq_value.specs.Datum.{string}
use Rattle.bq_package.proofs.host.new_strings.Given as goal

abbrev pub invariant-loop-text : goal.invariant-loop-text
invariant-loop-text l = l.values.items ++ map string l.text-iterator.rest.items ≡ map string l.fn.texts.items
