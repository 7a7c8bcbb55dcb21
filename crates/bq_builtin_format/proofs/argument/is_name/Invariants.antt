use Rattle.std.proofs.Common.{◌≡◌, drop}
use Rattle.std.specs.List.{list_all}
use Rattle.bq_source.specs.Lexis.{is_word}
use Rattle.bq_builtin_format.proofs.argument.is_name.Given as goal

-- what is left decides
abbrev pub invariant-loop-byte : goal.invariant-loop-byte
invariant-loop-byte l = list_all is_word (drop l.byte-index l.others) ≡ list_all is_word l.others
