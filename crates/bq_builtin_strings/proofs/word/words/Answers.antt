use Rattle.bq_builtin_strings.proofs.WordCuts.{words_more, words_end}
use Rattle.bq_builtin_strings.proofs.word.words.Goals as goal

pub words-preserved : goal.words-preserved
words-preserved c =
    words_more c.words.left c.words.rest.now c.in-Some.word.now c.in-Some.after.now _ _ c.words.parts.items _ _ c.in-Some.ensures.cut c.after_space-rest-in-Some.ensures c.in_ok-from_slice.ensures c.in_ok-push.ensures.items c.words.invariant

pub returns : goal.returns
returns c = words_end c.words.left c.words.rest.now c.words.parts.items _ _ c.in_default.ensures.cut c.in_ok-push_part.ensures c.words.invariant
