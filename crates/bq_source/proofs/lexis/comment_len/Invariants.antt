use Rattle.std.proofs.Common.{◌≡◌, ◌+◌, ◌-◌, ◌≤◌, length, drop}
use Rattle.bq_source.specs.Lexis.{comment_len}
use Rattle.bq_source.proofs.lexis.comment_len.Given as goal

abbrev pub invariant-loop-n : goal.invariant-loop-n
invariant-loop-n l = record { len : comment_len l.text ≡ l.n + comment_len (drop l.n l.text); within : l.n ≤ length l.text }

abbrev pub decreases-loop-n : goal.decreases-loop-n
decreases-loop-n l = length l.text - l.n
