use Rattle.std.proofs.Common.{◌∙◌, sym, arith}
use Rattle.bq_label.proofs.Cuts.{last_from, last_at, rest_of}
use Rattle.std.proofs.lemmas.Grind.{common_steps}
use Rattle.bq_label.proofs.split.last_segment.Goals as goal
use Rattle.bq_label.proofs.split.last_segment.Goals.{then-loop-at-test+else-path-at-ne47, else-loop-at-test}

pub returns : goal.returns
returns c = rest_of c.args.path.now c.loop-at.at ∙ sym (elim c.loop-at-test.branch [
  | then-loop-at-test+else-path-at-ne47 w ↦ last_at c.args.path.now c.loop-at.at (omega arith) (omega arith) (omega arith) c.loop-at.invariant.1
  | else-loop-at-test w ↦ last_from c.args.path.now c.loop-at.at (omega arith) c.loop-at.invariant.1
])

pub loop-at-preserved : goal.loop-at-preserved
loop-at-preserved c = grind (arith, common_steps)
