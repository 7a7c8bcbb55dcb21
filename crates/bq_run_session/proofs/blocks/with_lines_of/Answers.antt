use Rattle.std.proofs.Common.{arith}
use Rattle.std.proofs.lemmas.Grind.{common_steps}
use Rattle.bq_run_session.proofs.Newlines.{no_string_counted, string_counted}
use Rattle.bq_run_session.proofs.blocks.with_lines_of.Goals as goal

pub loop-piece-preserved : goal.loop-piece-preserved
loop-piece-preserved c =
    let counted = string_counted c.args.pieces.now c.loop-piece.piece-index c.piece-item.result c.loop-piece-test.true c.piece-item.is in
    grind (arith, common_steps, counted)

pub returns : goal.returns
returns c = omega (arith, c.loop-piece.invariant, no_string_counted c.args.pieces.now c.loop-piece.piece-index c.loop-piece-test.false)
