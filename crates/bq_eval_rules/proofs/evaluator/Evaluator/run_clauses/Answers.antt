use Rattle.std.proofs.Common.{subst}
use Rattle.bq_builtin_machine.specs.Action.{following, pure}
use Rattle.bq_eval_spec.specs.Frame.{Frame}
use Rattle.bq_eval_frame.specs.Slots.{slots_of}
use Rattle.bq_eval_rules.specs.Acts.{Acts}
use Rattle.bq_eval_rules.specs.ComprehensionClauses.{all_clauses_in}
use Rattle.bq_eval_rules.proofs.Following.{first_acts}
use Rattle.bq_eval_rules.proofs.evaluator.Evaluator.run_clauses.Goals as goal

pub returns : goal.returns
returns g c =
    let h = g.R.Runtime in
    let run = λ (env : Frame). all_clauses_in h.means c.args.self.now c.args.element c.args.clauses.now env c.args.content.now (h.seen c.args.runtime.now) in
    let P : Frame → Type 0 = λ env. Acts h.means (λ _. c.all_clauses.new.content) c.all_clauses.result (h.seen c.all_clauses.new.runtime) (following (run env) (λ made. pure made.0)) in
    subst P c.in_ok-inner.ensures (first_acts h.means c.all_clauses.new.content (slots_of c.all_clauses.new.frame) c.all_clauses.result (h.seen c.all_clauses.new.runtime) (run (slots_of c.in_ok-inner.inner)) c.all_clauses.ensures)
