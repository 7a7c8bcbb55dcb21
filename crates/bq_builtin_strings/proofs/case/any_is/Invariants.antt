use Rattle.std.proofs.Common.{◌≡◌, drop}
use Rattle.std.specs.List.{list_any}
use Rattle.bq_builtin_strings.specs.Class.{has}
use Rattle.bq_builtin_strings.proofs.case.any_is.Given as goal

-- what is left decides
abbrev pub invariant-loop-byte : goal.invariant-loop-byte
invariant-loop-byte l = list_any (has l.class) (drop l.byte-index l.text) ≡ list_any (has l.class) l.text
