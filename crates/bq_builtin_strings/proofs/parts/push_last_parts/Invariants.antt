use Rattle.std.proofs.Common.{◌≡◌, ◌++◌, reverse}
use Rattle.bq_builtin_strings.specs.Parts.{rsplit}
use Rattle.bq_builtin_strings.proofs.parts.push_last_parts.Given as goal

-- the parts so far are in reverse
abbrev pub invariant-cuts : goal.invariant-cuts
invariant-cuts l = rsplit l.finder l.left l.rest ++ reverse l.parts.items ≡ rsplit l.finder l.most l.text ++ reverse l.fn.parts.items

abbrev pub decreases-cuts : goal.decreases-cuts
decreases-cuts l = l.left
