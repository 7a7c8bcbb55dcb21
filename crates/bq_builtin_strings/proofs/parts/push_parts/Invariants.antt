use Rattle.std.proofs.Common.{◌≡◌, ◌++◌}
use Rattle.bq_builtin_strings.specs.Parts.{split}
use Rattle.bq_builtin_strings.proofs.parts.push_parts.Given as goal

-- what is left gives, after the parts so far, what the text gives
abbrev pub invariant-cuts : goal.invariant-cuts
invariant-cuts l = l.parts.items ++ split l.finder l.left l.rest ≡ l.fn.parts.items ++ split l.finder l.most l.text

abbrev pub decreases-cuts : goal.decreases-cuts
decreases-cuts l = l.left
