use Rattle.std.proofs.Common.{◌≡◌, ◌++◌}
use Rattle.bq_builtin_strings.specs.Word.{words, words_from}
use Rattle.bq_builtin_strings.proofs.word.words.Given as goal

-- what is left gives, after the parts so far, what the text gives
abbrev pub invariant-words : goal.invariant-words
invariant-words l = l.parts.items ++ words_from l.left l.rest ≡ words l.most l.text

abbrev pub decreases-words : goal.decreases-words
decreases-words l = l.left
