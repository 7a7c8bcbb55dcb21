use Rattle.std.proofs.Common.{◌≡◌}
use Rattle.bq_value.specs.Tries.{IsShaped, entries}
use Rattle.bq_value.proofs.modules.raised.Given as goal

abbrev pub invariant-loop-level : goal.invariant-loop-level
invariant-loop-level l = (IsShaped l.longer l.level) × (entries l.longer l.level 0 ≡ entries l.tree l.from 0)
