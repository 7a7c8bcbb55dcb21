use Rattle.std.proofs.Common.{◌∙◌, sym, arith}
use Rattle.std.proofs.lemmas.Bool.{eqb-true, eqb-false}
use Rattle.bq_builtin_strings.proofs.WordCuts.{last_word_none, last_word_some}
use Rattle.bq_builtin_strings.proofs.word.last_word_within.Goals as goal

pub returns-then-is_empty-clause-cut : goal.returns-then-is_empty-clause-cut
returns-then-is_empty-clause-cut c = last_word_none c.args.left c.args.text.now (eqb-true _ _ (sym c.is_empty.ensures ∙ c.if-is_empty.true))

pub returns-clause-cut : goal.returns-clause-cut
returns-clause-cut c =
    last_word_some c.args.left c.args.text.now _ _ c.len_without_run.result c.if-left-eq0.false (omega (arith, eqb-false _ _ (sym c.is_empty.ensures ∙ c.if-is_empty.false))) c.len_without_run.ensures.len c.split_at.ensures.front c.split_at.ensures.back
