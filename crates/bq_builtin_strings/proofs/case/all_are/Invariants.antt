use Rattle.std.proofs.Common.{◌≡◌, drop}
use Rattle.std.specs.List.{list_all}
use Rattle.bq_builtin_strings.specs.Class.{has}
use Rattle.bq_builtin_strings.proofs.case.all_are.Given as goal

-- what is left decides
abbrev pub invariant-loop-byte : goal.invariant-loop-byte
invariant-loop-byte l = list_all (has l.class) (drop l.byte-index l.text) ≡ list_all (has l.class) l.text
