use Rattle.std.proofs.Common.{rules, ◌≡◌, arith, sym, subst, ℤ, w64, to_z, of_z}
use Rattle.std.proofs.lemmas.Grind.{common_steps}
use Rattle.bq_value.specs.Datum.{Datum, int}
use Rattle.bq_builtin_machine.specs.Action.{Run, following}
use Rattle.bq_eval_spec.specs.Expressions.{literal}
use Rattle.bq_eval_frame.specs.Slots.{slots_of}
use Rattle.bq_eval_rules.specs.Acts.{Acts}
use Rattle.bq_eval_rules.specs.Round.{inside, round_of}
use Rattle.bq_eval_rules.proofs.Layers.{local_layer, int_layer}
use Rattle.bq_eval_rules.proofs.evaluator.Evaluator.apply.Goals as goal

pub returns-in_err-right : goal.returns-in_err-right
returns-in_err-right g c =
    let h = g.R.Runtime in
    let e = local_layer h.means (inside h.means c.args.self.now.context.now) (round_of c.args.self.now.context.now) c.args.self.now.depth c.args.operand.now c.in-Name.name c.in-Local.slot (slots_of c.args.self.now.frame.now) (h.seen c.args.runtime.now) c.if-self-gt0.true c.in-Name.is c.in-Local.is in
    rw e (grind (arith, common_steps))

pub returns-in-Local : goal.returns-in-Local
returns-in-Local g c =
    let h = g.R.Runtime in
    let e = local_layer h.means (inside h.means c.args.self.now.context.now) (round_of c.args.self.now.context.now) c.args.self.now.depth c.args.operand.now c.in-Name.name c.in-Local.slot (slots_of c.args.self.now.frame.now) (h.seen c.args.runtime.now) c.if-self-gt0.true c.in-Name.is c.in-Local.is in
    rw e (grind (arith, common_steps))

pub returns-in-Int : goal.returns-in-Int
returns-in-Int g c =
    let h = g.R.Runtime in
    let z : to_z w64 (of_z w64 c.in-Int.n) ≡ c.in-Int.n = search rules in
    let e = int_layer h.means (inside h.means c.args.self.now.context.now) (round_of c.args.self.now.context.now) c.args.self.now.depth c.args.operand.now c.in-Int.n (slots_of c.args.self.now.frame.now) (h.seen c.args.runtime.now) c.if-self-gt0.true c.in-Int.is in
    let Q : ℤ → Type 0 = λ n. Acts h.means (λ v. v) c.apply_int.result (h.seen c.apply_int.new.runtime) (following (literal h.means (int n) (h.seen c.args.runtime.now)) (h.means.binary c.args.operator c.args.left.now)) in
    let P : Run h.State Datum → Type 0 = λ run. Acts h.means (λ v. v) c.apply_int.result (h.seen c.apply_int.new.runtime) (following run (h.means.binary c.args.operator c.args.left.now)) in
    subst P (sym e) (subst Q z c.apply_int.ensures)
