use Rattle.std.proofs.Common.{Option, sym, subst}
use Rattle.bq_parse_grammar.specs.declared.tree.Expr.{Expr}
use Rattle.bq_eval_spec.specs.Frame.{Frame}
use Rattle.bq_eval_spec.specs.Slots.{by_slots}
use Rattle.bq_eval_spec.specs.Statements.{Flow, return_stmt}
use Rattle.bq_eval_frame.specs.Slots.{slots_of}
use Rattle.bq_eval_rules.specs.declared.flow.Flow.TheVariants as variants
use Rattle.bq_eval_rules.specs.Acts.{Acts}
use Rattle.bq_eval_rules.specs.Flows.{flow_of}
use Rattle.bq_eval_rules.specs.Readers.{evals_of}
use Rattle.bq_eval_rules.proofs.Flowing.{value_returned}
use Rattle.bq_eval_rules.proofs.reader.Reader.return_stmt.Goals as goal

pub returns-in-None-evaluate : goal.returns-in-None-evaluate
unfolding return_stmt
returns-in-None-evaluate g c =
    let h = g.R.Runtime in
    let e = evals_of h.means c.args.self.now in
    let env = slots_of c.args.frame.now in
    let s = h.seen c.args.runtime.now in
    let t = h.seen c.evaluate.new.runtime in
    let view : Flow → Flow × Frame = λ f. (f, env) in
    let P : Option Expr → Type 0 = λ o. Acts h.means view (flow_of variants.Ended c.evaluate.new.out) t (return_stmt h.means by_slots e o env s) in
    subst P (sym c.in-Some.is) (value_returned h.means env t c.evaluate.new.out (e c.in-Some.code env s) c.in-None-evaluate.ensures)
