use Rattle.std.proofs.Common.{rules, ◌≡◌, sym, subst, ℤ, w64, to_z, of_z}
use Rattle.bq_value.specs.Datum.{Datum, int}
use Rattle.bq_builtin_machine.specs.Action.{Run}
use Rattle.bq_eval_spec.specs.Expressions.{literal}
use Rattle.bq_eval_frame.specs.Slots.{slots_of}
use Rattle.bq_eval_rules.specs.Acts.{Acts}
use Rattle.bq_eval_rules.specs.Operands.{read_of}
use Rattle.bq_eval_rules.specs.Round.{inside, round_of}
use Rattle.bq_eval_rules.proofs.Layers.{name_layer, int_layer}
use Rattle.bq_eval_rules.proofs.evaluator.Evaluator.operand.Goals as goal

pub returns-in-Name : goal.returns-in-Name
returns-in-Name g c =
    let h = g.R.Runtime in
    let e = name_layer h.means (inside h.means c.args.self.now.context.now) (round_of c.args.self.now.context.now) c.args.self.now.depth c.args.code.now c.in-Name.name (slots_of c.args.self.now.frame.now) (h.seen c.args.runtime.now) c.if-self-gt0.true c.in-Name.is in
    let P : Run h.State Datum → Type 0 = λ run. Acts h.means read_of c.use_of.result (h.seen c.use_of.new.runtime) run in
    subst P (sym e) c.use_of.ensures

pub returns-in-Int : goal.returns-in-Int
returns-in-Int g c =
    let h = g.R.Runtime in
    let z : to_z w64 (of_z w64 c.in-Int.n) ≡ c.in-Int.n = search rules in
    let e = int_layer h.means (inside h.means c.args.self.now.context.now) (round_of c.args.self.now.context.now) c.args.self.now.depth c.args.code.now c.in-Int.n (slots_of c.args.self.now.frame.now) (h.seen c.args.runtime.now) c.if-self-gt0.true c.in-Int.is in
    let Q : ℤ → Type 0 = λ n. Acts h.means read_of c.int_operand.result (h.seen c.int_operand.new.runtime) (literal h.means (int n) (h.seen c.args.runtime.now)) in
    let P : Run h.State Datum → Type 0 = λ run. Acts h.means read_of c.int_operand.result (h.seen c.int_operand.new.runtime) run in
    subst P (sym e) (subst Q z c.int_operand.ensures)
