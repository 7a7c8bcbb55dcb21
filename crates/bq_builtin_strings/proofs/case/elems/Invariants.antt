use Rattle.std.proofs.Common.{◌≡◌, map, take}
use Rattle.bq_builtin_strings.proofs.case.elems.Given as goal
use Rattle.bq_builtin_strings.proofs.WordCases.{alone}

abbrev pub invariant-loop-byte : goal.invariant-loop-byte
invariant-loop-byte l = l.parts.items ≡ map alone (take l.byte-index l.text)
