use Rattle.std.proofs.Common.{◌≡◌, ◌+◌, ◌-◌, ◌≤◌, length, drop}
use Rattle.std.specs.List.{prefix_len}
use Rattle.bq_source.specs.StringLiteral.{is_plain}
use Rattle.bq_source_lexer.proofs.frequent.plain_len.Given as goal

abbrev pub invariant-loop-n : goal.invariant-loop-n
invariant-loop-n l = record { run : prefix_len (is_plain 34) l.bytes ≡ l.n + prefix_len (is_plain 34) (drop l.n l.bytes); within : l.n ≤ length l.bytes }

abbrev pub decreases-loop-n : goal.decreases-loop-n
decreases-loop-n l = length l.bytes - l.n
