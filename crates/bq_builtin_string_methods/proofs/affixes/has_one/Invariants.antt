use Rattle.std.proofs.Common.{◌≡◌, drop, false}
use Rattle.bq_builtin_string_methods.specs.Affixes.{has_end, texts_of}
use Rattle.bq_builtin_string_methods.proofs.OneOf.{found_after}
use Rattle.bq_builtin_string_methods.proofs.affixes.has_one.Given as goal

-- what is left says what all say
abbrev pub invariant-loop-value : goal.invariant-loop-value
invariant-loop-value l = found_after (has_end l.method l.part) false (texts_of l.values) ≡ found_after (has_end l.method l.part) l.found (texts_of (drop l.value-index l.values))
