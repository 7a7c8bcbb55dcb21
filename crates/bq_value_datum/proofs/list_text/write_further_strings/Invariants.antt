use Rattle.std.proofs.Common.{◌≡◌, ◌++◌, drop}
use Rattle.bq_value_datum.specs.ListText.{further}
use Rattle.bq_value_datum.proofs.list_text.write_further_strings.Given as goal

abbrev pub invariant-loop-string : goal.invariant-loop-string
invariant-loop-string l = l.text.items ++ further (drop l.string-index l.strings) ≡ l.initial.text.items ++ further l.strings
