use Rattle.std.proofs.Common.{◌≡◌, ℕ, ◌<◌, false, length, take, get_or}
use Rattle.bq_builtin_strings.specs.Trim.{is_among}
use Rattle.bq_builtin_strings.proofs.trim.ByteSet.of.Given as goal

abbrev pub invariant-loop-byte : goal.invariant-loop-byte
invariant-loop-byte l = (length l.has ≡ 256) × ((k : ℕ) → k < 256 → get_or l.has k false ≡ is_among (take l.byte-index l.set) k)
