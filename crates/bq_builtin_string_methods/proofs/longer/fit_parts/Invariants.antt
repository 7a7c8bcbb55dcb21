use Rattle.std.proofs.Common.{◌≡◌, ◌+◌, length, drop}
use Rattle.bq_builtin_strings.specs.Parts.{joined_on}
use Rattle.bq_builtin_string_methods.proofs.longer.fit_parts.Given as goal

-- the length so far, and that of what is left, is the whole
abbrev pub invariant-loop-part : goal.invariant-loop-part
invariant-loop-part l = l.first + length (joined_on l.separator l.others) ≡ l.len + length (joined_on l.separator (drop l.part-index l.others))
