use Rattle.std.proofs.Common.{◌≡◌, ◌++◌}
use Rattle.bq_builtin_strings.specs.Parts.{replace_cuts}
use Rattle.bq_builtin_strings.proofs.parts.push_replaced.Given as goal

abbrev pub invariant-cuts : goal.invariant-cuts
invariant-cuts l = l.made.items ++ replace_cuts l.finder l.new l.left l.rest ≡ l.fn.made.items ++ replace_cuts l.finder l.new l.most l.text

abbrev pub decreases-cuts : goal.decreases-cuts
decreases-cuts l = l.left
