use Rattle.std.proofs.Common.{◌∙◌, sym, arith}
use Rattle.std.proofs.lemmas.Bool.{eqb-true, eqb-false}
use Rattle.bq_builtin_strings.specs.Line.{part}
use Rattle.bq_builtin_strings.proofs.LineCuts.{lines_more, lines_end}
use Rattle.bq_builtin_strings.proofs.line.lines.Goals as goal

pub loop-rest-preserved : goal.loop-rest-preserved
loop-rest-preserved c =
    lines_more (part c.args.keep_ends) c.loop-rest.rest.now c.split_at.result.0.now c.split_at.result.1.now _ c.line_len.result c.loop-rest.parts.items _ _ (omega (arith, eqb-false _ _ (sym c.is_empty.ensures ∙ c.loop-rest-test.true))) c.line_len.ensures.len c.split_at.ensures.front c.split_at.ensures.back (c.in_ok-from_slice.ensures ∙ c.part.ensures) c.in_ok-push.ensures.items c.loop-rest.invariant

pub returns : goal.returns
returns c = lines_end (part c.args.keep_ends) c.loop-rest.rest.now c.loop-rest.parts.items _ (eqb-true _ _ (sym c.is_empty.ensures ∙ c.loop-rest-test.false)) c.loop-rest.invariant
