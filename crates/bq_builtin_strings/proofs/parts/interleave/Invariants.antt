use Rattle.std.proofs.Common.{◌≡◌, ◌++◌, ◌-◌, drop}
use Rattle.bq_builtin_strings.specs.Parts.{interleave}
use Rattle.bq_builtin_strings.proofs.parts.interleave.Given as goal

abbrev pub invariant-loop-byte : goal.invariant-loop-byte
invariant-loop-byte l = l.made.items ++ interleave l.new (l.most - l.byte-index) (drop l.byte-index l.text) ≡ interleave l.new l.most l.text
