use Rattle.std.proofs.Common.{◌≡◌, map, take}
use Rattle.std.specs.Char.{to_ascii_lowercase}
use Rattle.bq_builtin_strings.proofs.case.lower.Given as goal

abbrev pub invariant-loop-byte : goal.invariant-loop-byte
invariant-loop-byte l = l.made.items ≡ map to_ascii_lowercase (take l.byte-index l.text)
