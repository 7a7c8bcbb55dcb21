use Rattle.std.proofs.Common.{◌≡◌, drop}
use Rattle.bq_builtin_format.specs.Argument.{named_value}
use Rattle.bq_builtin_format.proofs.named.first_value.Given as goal

-- what is left decides
abbrev pub invariant-loop-key : goal.invariant-loop-key
invariant-loop-key l = named_value l.name (drop l.key-index l.pairs) ≡ named_value l.name l.pairs
