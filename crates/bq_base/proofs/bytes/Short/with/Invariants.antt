use Rattle.std.proofs.Common.{◌≡◌, ◌+◌, ◌++◌, take, length}
use Rattle.bq_base.proofs.bytes.Short.with.Given as goal

abbrev pub invariant-loop-i : goal.invariant-loop-i
invariant-loop-i l = record { long : length l.held ≡ 22; same : take (l.begun + l.i) l.held ≡ take l.begun l.self.bytes ++ take l.i l.more }
