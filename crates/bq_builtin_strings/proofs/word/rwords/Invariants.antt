use Rattle.std.proofs.Common.{◌≡◌, ◌++◌, reverse}
use Rattle.bq_builtin_strings.specs.Word.{rwords, rwords_from}
use Rattle.bq_builtin_strings.proofs.word.rwords.Given as goal

-- the parts so far are in reverse
abbrev pub invariant-words : goal.invariant-words
invariant-words l = rwords_from l.left l.rest ++ reverse l.parts.items ≡ rwords l.most l.text

abbrev pub decreases-words : goal.decreases-words
decreases-words l = l.left
