use Rattle.std.proofs.Common.{◌≡◌, map, take}
use Rattle.std.specs.Char.{to_ascii_uppercase}
use Rattle.bq_builtin_strings.proofs.case.upper.Given as goal

abbrev pub invariant-loop-byte : goal.invariant-loop-byte
invariant-loop-byte l = l.made.items ≡ map to_ascii_uppercase (take l.byte-index l.text)
