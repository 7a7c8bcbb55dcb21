use Rattle.std.proofs.Common.{arith, sym, subst}
use Rattle.std.proofs.lemmas.Grind.{common_steps}
use Rattle.bq_value.specs.Datum.{Datum}
use Rattle.bq_builtin_machine.specs.Action.{Run}
use Rattle.bq_eval_frame.specs.Slots.{slots_of}
use Rattle.bq_eval_rules.specs.Acts.{Acts}
use Rattle.bq_eval_rules.specs.Round.{inside, round_of}
use Rattle.bq_eval_rules.proofs.Layers.{string_layer}
use Rattle.bq_eval_rules.proofs.evaluator.Evaluator.value.Goals as goal

pub returns-in-String : goal.returns-in-String
returns-in-String g c =
    let h = g.R.Runtime in
    let x = c.args.self.now.context.now in
    rw (string_layer h.means (inside h.means x) (round_of x) c.args.self.now.depth c.args.code.now _ (slots_of c.args.self.now.frame.now) (h.seen c.args.runtime.now) c.if-self-gt0.true c.in-String.is) (grind (arith, common_steps))

pub returns-in-Some : goal.returns-in-Some
returns-in-Some g c =
    let h = g.R.Runtime in
    let P : Run h.State Datum → Type 0 = λ run. Acts h.means (λ v. v) c.shared_leaf.result (h.seen c.shared_leaf.new.runtime) run in
    subst P (sym c.in-Some.ensures) c.shared_leaf.ensures
