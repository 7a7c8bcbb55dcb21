use Rattle.std.proofs.Common.{◌∙◌, ap, ◌-◌, length, drop, arith}
use Rattle.std.proofs.lemmas.List.{length-drop, take_all}
use Rattle.bq_source.specs.Lexis.{newline_len}
use Rattle.bq_source.proofs.Runs.{comment_goes_on}
use Rattle.bq_source.proofs.lexis.comment_len.Goals as goal

pub loop-n-preserved : goal.loop-n-preserved
loop-n-preserved c = record {
  len = c.loop-n.invariant.len ∙ comment_goes_on c.args.text.now c.loop-n.n c.newline_len.result (omega arith) (c.newline_len.ensures.len ∙ ap newline_len (let l = length-drop c.loop-n.n c.args.text.now in take_all (length c.args.text.now - c.loop-n.n) (drop c.loop-n.n c.args.text.now) (omega arith))) c.if-newline_len-eq0.true;
  within = omega arith;
}
