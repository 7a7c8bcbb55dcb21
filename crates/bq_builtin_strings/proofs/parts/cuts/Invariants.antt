use Rattle.std.proofs.Common.{◌≡◌, ◌+◌, ◌≤◌}
use Rattle.bq_builtin_strings.specs.Parts.{cuts}
use Rattle.bq_builtin_strings.proofs.parts.cuts.Given as goal

abbrev pub invariant-cuts : goal.invariant-cuts
invariant-cuts l = (l.left ≤ l.most) × (l.most + cuts l.separator l.left l.rest ≡ l.left + cuts l.separator l.most l.text)

abbrev pub decreases-cuts : goal.decreases-cuts
decreases-cuts l = l.left
