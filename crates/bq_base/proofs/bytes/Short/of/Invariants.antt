use Rattle.std.proofs.Common.{◌≡◌, take, length}
use Rattle.bq_base.proofs.bytes.Short.of.Given as goal

abbrev pub invariant-loop-i : goal.invariant-loop-i
invariant-loop-i l = record { long : length l.held ≡ 22; same : take l.i l.held ≡ take l.i l.bytes }
