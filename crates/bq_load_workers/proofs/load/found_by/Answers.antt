use Rattle.std.proofs.Common.{map, length, arith}
use Rattle.std.proofs.lemmas.List.{length-map}
use Rattle.bq_load_order.specs.Outcome.{outcome}
use Rattle.bq_load_order.specs.SharedOutcomes.{slot}
use Rattle.bq_load_order.proofs.Filled.{fill_none, none_shown}
use Rattle.bq_load_workers.proofs.Promises.{had_none, had_more, had_all}
use Rattle.bq_load_workers.proofs.load.found_by.Goals as goal

pub loop-answer-init : goal.loop-answer-init
loop-answer-init g c =
    let held = slot g.E.Evaluate.see g.E.Evaluate.see_fault in record {
      had = had_none c.args.answers.now;
      found = fill_none (outcome (g.E.Evaluate.means c.args.pool.now.evaluator) c.args.pool.now.graph) (length c.args.pool.now.graph) (map held c.in_ok-found.found.items)
          (omega (arith, length-map c.in_ok-found.found.items held, c.in_ok-found.ensures.0, c.in_ok-found.found.ok, c.len.ensures.len)) (none_shown g.E.Evaluate.see g.E.Evaluate.see_fault c.in_ok-found.found.items c.in_ok-found.ensures.1);
    }

pub loop-answer-preserved : goal.loop-answer-preserved
loop-answer-preserved g c = record {
  had = had_more c.args.answers.now c.loop-answer.answer-index c.answer-item.result c.in-Ok.worked c.loop-answer-test.true c.answer-item.is c.in-Ok.is c.loop-answer.invariant.had;
  found = c.in_ok-put_all-in-Ok.ensures;
}

pub returns-clause-had : goal.returns-clause-had
returns-clause-had g c = had_all c.args.answers.now c.loop-answer.answer-index c.loop-answer-test.false c.loop-answer.invariant.had

pub returns-clause-found : goal.returns-clause-found
returns-clause-found g c = c.loop-answer.invariant.found
