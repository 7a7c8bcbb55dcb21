use Rattle.std.proofs.Common.{◌≡◌, ◌++◌, drop}
use Rattle.bq_builtin_strings.specs.Parts.{join, joined_on}
use Rattle.bq_builtin_strings.proofs.parts.join.Given as goal

abbrev pub invariant-loop-part : goal.invariant-loop-part
invariant-loop-part l = l.text.items ++ joined_on l.separator (drop l.part-index l.rest) ≡ join l.separator l.parts
