use Rattle.bq_value.specs.Contents.{Contents}
use Rattle.bq_eval_spec.specs.Frame.{Frame}
use Rattle.bq_eval_spec.specs.Comprehensions.{element}
use Rattle.bq_eval_rules.specs.Evaluators.{frame_of, value_inside}
use Rattle.bq_eval_rules.proofs.Answering.{goes_on_with}
use Rattle.bq_eval_rules.proofs.evaluator.Evaluator.add_item.Goals as goal

pub returns-in-None : goal.returns-in-None
unfolding element
returns-in-None g c =
    let h = g.R.Runtime in
    let x = c.args.self.now in
    let made : Contents → Contents × Frame = λ d. (d, frame_of x) in
    goes_on_with h.means c.add_there.new.content made c.evaluate.new.out (h.means.add c.args.content.now) c.add_there.result (h.seen c.evaluate.new.runtime) (h.seen c.add_there.new.runtime) (value_inside h.means x c.args.item.now (h.seen c.args.runtime.now)) c.in-None.ensures c.add_there.ensures
