use Rattle.std.proofs.Common.{arith}
use Rattle.bq_run_session.proofs.Newlines.{newline_counted, none_counted, other_counted}
use Rattle.bq_run_session.proofs.blocks.line_count.Goals as goal
use Rattle.bq_run_session.proofs.blocks.line_count.Goals.{then-byte-eq10, else-byte-eq10}

pub loop-byte-preserved : goal.loop-byte-preserved
loop-byte-preserved c =
    let text = c.args.text.now in
    let i = c.loop-byte.byte-index in
    elim c.if-byte-eq10.branch [
      | then-byte-eq10 w ↦ record {
        counted = omega (arith, c.loop-byte.invariant.counted, newline_counted text i c.loop-byte-test.true w.if-byte-eq10.true);
        few = omega arith;
      }
      | else-byte-eq10 w ↦ record {
        counted = omega (arith, c.loop-byte.invariant.counted, other_counted text i c.loop-byte-test.true w.if-byte-eq10.false);
        few = omega arith;
      }
    ]

pub returns : goal.returns
returns c = omega (arith, c.loop-byte.invariant.counted, none_counted c.args.text.now c.loop-byte.byte-index c.loop-byte-test.false)
