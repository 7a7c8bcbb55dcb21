use Rattle.std.proofs.Common.{arith}
use Rattle.bq_label_glob.proofs.Segments.{past_end, segment_is}
use Rattle.bq_label_glob.proofs.segment.segment_at.Goals as goal
use Rattle.bq_label_glob.proofs.segment.segment_at.Goals.{then-loop-len-test+else-rest-len-ne47, else-loop-len-test}

pub returns-then-at-path-clause-cut : goal.returns-then-at-path-clause-cut
returns-then-at-path-clause-cut c = past_end c.args.path.now c.args.at (omega arith)

pub returns-clause-cut : goal.returns-clause-cut
returns-clause-cut c = segment_is c.args.path.now c.args.at c.loop-len.len (omega arith) c.loop-len.invariant.inside c.loop-len.invariant.before
    (λ l. elim c.loop-len-test.branch [
      | then-loop-len-test+else-rest-len-ne47 w ↦ omega (arith, w.if-rest-len-ne47)
      | else-loop-len-test w ↦ absurd (omega (arith, w.loop-len-test, l))
    ])
