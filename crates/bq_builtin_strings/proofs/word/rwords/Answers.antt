use Rattle.bq_builtin_strings.proofs.WordCuts.{rwords_more, rwords_end}
use Rattle.bq_builtin_strings.proofs.word.rwords.Goals as goal

pub words-preserved : goal.words-preserved
words-preserved c =
    rwords_more c.words.left c.words.rest.now c.in-Some.before.now c.in-Some.word.now _ _ c.words.parts.items _ _ c.in-Some.ensures.cut c.before_space-rest-in-Some.ensures c.in_ok-from_slice.ensures c.in_ok-push.ensures.items c.words.invariant

pub returns : goal.returns
returns c =
    rwords_end c.words.left c.words.rest.now c.words.parts.items _ _ _ c.in_default.ensures.cut c.in_ok-push_part.ensures c.reverse.ensures.items c.words.invariant
