use Rattle.std.proofs.Common.{◌≡◌, ◌+◌, ◌≤◌, length, take}
use Rattle.std.specs.List.{suffix_len}
use Rattle.bq_builtin_strings.specs.Trim.{is_among}
use Rattle.bq_builtin_strings.proofs.trim.len_without_run.Given as goal

abbrev pub invariant-loop-len : goal.invariant-loop-len
invariant-loop-len l = (l.len ≤ length l.text) × (l.len + suffix_len (is_among l.set) l.text ≡ length l.text + suffix_len (is_among l.set) (take l.len l.text))

abbrev pub decreases-loop-len : goal.decreases-loop-len
decreases-loop-len l = l.len
