use Rattle.std.proofs.Common.{sym, subst}
use Rattle.bq_value.specs.Datum.{Datum}
use Rattle.bq_builtin_machine.specs.Action.{Run, following}
use Rattle.bq_eval_spec.specs.Expressions.{operations}
use Rattle.bq_eval_rules.specs.Acts.{Acts}
use Rattle.bq_eval_rules.specs.Answers.{answer_of}
use Rattle.bq_eval_rules.specs.Evaluators.{evals_in, frame_of, value_inside}
use Rattle.bq_eval_rules.proofs.Answering.{goes_on}
use Rattle.bq_eval_rules.proofs.evaluator.Evaluator.chain_of.Goals as goal

pub returns-in-Some : goal.returns-in-Some
returns-in-Some g c =
    let h = g.R.Runtime in
    let x = c.args.self.now in
    let P : Run h.State Datum → Type 0 = λ run. Acts h.means (λ v. v) (answer_of c.lent_chain.result c.lent_chain.new.out) (h.seen c.lent_chain.new.runtime) (following run (operations h.means (evals_in h.means x) c.args.operations.now (frame_of x))) in
    subst P (sym c.in-Some.ensures) c.lent_chain.ensures

pub returns-in-None : goal.returns-in-None
returns-in-None g c =
    let h = g.R.Runtime in
    let x = c.args.self.now in
    goes_on h.means (λ (v : Datum). v) c.evaluate.new.out (operations h.means (evals_in h.means x) c.args.operations.now (frame_of x)) (answer_of c.operations_there.result c.operations_there.new.out) (h.seen c.evaluate.new.runtime) (h.seen c.operations_there.new.runtime) (value_inside h.means x c.args.code.now (h.seen c.args.runtime.now)) c.in-None.ensures c.operations_there.ensures
