use Rattle.std.proofs.Common.{rules, ◌≡◌, ap, ◌∙◌, sym, subst, arith, Some, ℤ, w64, to_z, of_z}
use Rattle.bq_value.specs.Datum.{int}
use Rattle.bq_eval_spec.specs.Expressions.{literal}
use Rattle.bq_eval_frame.specs.Slots.{slots_of}
use Rattle.bq_eval_rules.specs.Evaluators.{value_inside}
use Rattle.bq_eval_rules.specs.Round.{inside, round_of}
use Rattle.bq_eval_rules.proofs.Answering.{then_some}
use Rattle.bq_eval_rules.proofs.Layers.{int_layer, local_leaf}
use Rattle.bq_eval_rules.proofs.evaluator.Evaluator.int_leaf.Goals as goal

pub returns-in-Local : goal.returns-in-Local
returns-in-Local g c =
    let h = g.R.Runtime in
    let x = c.args.self.now.context.now in
    let s = h.seen c.args.runtime.now in
    then_some (λ n. slots_of c.args.self.now.frame.now c.in-Local.slot ≡ Some (int n)) (λ n. value_inside h.means c.args.self.now c.args.code.now s ≡ literal h.means (int n) s) c.int_in.result c.int_in.ensures
    (λ n full. local_leaf h.means (inside h.means x) (round_of x) c.args.self.now.depth c.args.code.now c.in-Name.name c.in-Local.slot (int n) (slots_of c.args.self.now.frame.now) s (omega (arith, c.if-self-eq0.false)) c.in-Name.is c.in-Local.is full)

pub returns-in-Int : goal.returns-in-Int
returns-in-Int g c =
    let h = g.R.Runtime in
    let x = c.args.self.now.context.now in
    let s = h.seen c.args.runtime.now in
    let z : to_z w64 (of_z w64 c.in-Int.n) ≡ c.in-Int.n = search rules in
    int_layer h.means (inside h.means x) (round_of x) c.args.self.now.depth c.args.code.now c.in-Int.n (slots_of c.args.self.now.frame.now) s (omega (arith, c.if-self-eq0.false)) c.in-Int.is
    ∙ ap (λ n. literal h.means (int n) s) (sym z)
