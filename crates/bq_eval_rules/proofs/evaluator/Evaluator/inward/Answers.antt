use Rattle.std.proofs.Common.{◌∙◌, refl, sym}
use Rattle.bq_eval_frame.specs.Slots.{slots_of}
use Rattle.bq_eval_rules.specs.ComprehensionClauses.{element_in}
use Rattle.bq_eval_rules.specs.Nests.{nested}
use Rattle.bq_eval_rules.proofs.Forms.{for_out, if_out}
use Rattle.bq_eval_rules.proofs.Clauses.{loop_left_to, loop_counts, condition_stops, condition_holds, holds_count, condition_fails, fails_count, no_clause, no_count}
use Rattle.bq_eval_rules.proofs.evaluator.Evaluator.inward.Goals as goal

pub returns-in-For-clause-leaves : goal.returns-in-For-clause-leaves
returns-in-For-clause-leaves g c =
    let h = g.R.Runtime in
    let e = nested h.means c.args.self.now.depth c.args.self.now.context.now in
    let b = element_in h.means c.args.self.now c.args.inner.element in
    let layer = for_out c.clause-item.result c.in-For.target c.in-For.iterable c.in-For.is in
    sym c.loop-rest.invariant.left ∙ loop_left_to h.means e b (slots_of c.args.self.now.frame.now) c.args.content.now (h.seen c.loop-rest.runtime) c.loop-rest.rest.now c.clause-item.result c.in-len1-up.len_at_least c.clause-item.is _ refl layer

pub returns-in-For-clause-counts : goal.returns-in-For-clause-counts
returns-in-For-clause-counts g c =
    let h = g.R.Runtime in
    let e = nested h.means c.args.self.now.depth c.args.self.now.context.now in
    let b = element_in h.means c.args.self.now c.args.inner.element in
    let layer = for_out c.clause-item.result c.in-For.target c.in-For.iterable c.in-For.is in
    sym c.loop-rest.invariant.count ∙ loop_counts h.means e b (slots_of c.args.self.now.frame.now) c.args.content.now (h.seen c.loop-rest.runtime) c.loop-rest.rest.now c.clause-item.result c.in-len1-up.len_at_least c.clause-item.is _ refl layer

pub returns-in-None-clause-leaves : goal.returns-in-None-clause-leaves
returns-in-None-clause-leaves g c =
    let h = g.R.Runtime in
    let e = nested h.means c.args.self.now.depth c.args.self.now.context.now in
    let b = element_in h.means c.args.self.now c.args.inner.element in
    let layer = if_out c.clause-item.result c.in-If.condition c.in-If.is in
    λ why is. sym c.loop-rest.invariant.left ∙ condition_stops h.means e b (slots_of c.args.self.now.frame.now) c.args.content.now (h.seen c.loop-rest.runtime) c.loop-rest.rest.now c.clause-item.result c.in-len1-up.len_at_least c.clause-item.is c.in-If.condition layer _ (c.in-None.ensures why is)

pub returns-in-Some-false-clause-leaves : goal.returns-in-Some-false-clause-leaves
returns-in-Some-false-clause-leaves g c =
    let h = g.R.Runtime in
    let e = nested h.means c.args.self.now.depth c.args.self.now.context.now in
    let b = element_in h.means c.args.self.now c.args.inner.element in
    let layer = if_out c.clause-item.result c.in-If.condition c.in-If.is in
    sym c.loop-rest.invariant.left ∙ condition_fails h.means e b (slots_of c.args.self.now.frame.now) c.args.content.now (h.seen c.loop-rest.runtime) c.loop-rest.rest.now c.clause-item.result c.in-len1-up.len_at_least c.clause-item.is c.in-If.condition layer c.in-Some-false.field-0 (h.seen c.holds.new.runtime) c.in-Some-false.ensures c.in-Some-false.field-0-test

pub returns-in-Some-false-clause-counts : goal.returns-in-Some-false-clause-counts
returns-in-Some-false-clause-counts g c =
    let h = g.R.Runtime in
    let e = nested h.means c.args.self.now.depth c.args.self.now.context.now in
    let b = element_in h.means c.args.self.now c.args.inner.element in
    let layer = if_out c.clause-item.result c.in-If.condition c.in-If.is in
    sym c.loop-rest.invariant.count ∙ fails_count h.means e b (slots_of c.args.self.now.frame.now) c.args.content.now (h.seen c.loop-rest.runtime) c.loop-rest.rest.now c.clause-item.result c.in-len1-up.len_at_least c.clause-item.is c.in-If.condition layer c.in-Some-false.field-0 (h.seen c.holds.new.runtime) c.in-Some-false.ensures c.in-Some-false.field-0-test

pub loop-rest-preserved : goal.loop-rest-preserved
loop-rest-preserved g c =
    let h = g.R.Runtime in
    let e = nested h.means c.args.self.now.depth c.args.self.now.context.now in
    let b = element_in h.means c.args.self.now c.args.inner.element in
    let layer = if_out c.clause-item.result c.in-If.condition c.in-If.is in
    record {
      left = sym (condition_holds h.means e b (slots_of c.args.self.now.frame.now) c.args.content.now (h.seen c.loop-rest.runtime) c.loop-rest.rest.now c.clause-item.result c.in-len1-up.len_at_least c.clause-item.is c.in-If.condition layer c.in-Some-true.field-0 (h.seen c.holds.new.runtime) c.in-Some-true.ensures c.in-Some-true.field-0-test) ∙ c.loop-rest.invariant.left;
      count = sym (holds_count h.means e b (slots_of c.args.self.now.frame.now) c.args.content.now (h.seen c.loop-rest.runtime) c.loop-rest.rest.now c.clause-item.result c.in-len1-up.len_at_least c.clause-item.is c.in-If.condition layer c.in-Some-true.field-0 (h.seen c.holds.new.runtime) c.in-Some-true.ensures c.in-Some-true.field-0-test) ∙ c.loop-rest.invariant.count;
    }

pub returns-in-Err-clause-leaves : goal.returns-in-Err-clause-leaves
returns-in-Err-clause-leaves g c =
    let h = g.R.Runtime in
    let e = nested h.means c.args.self.now.depth c.args.self.now.context.now in
    let b = element_in h.means c.args.self.now c.args.inner.element in
    λ why is. sym c.loop-rest.invariant.left ∙ (no_clause h.means e b (slots_of c.args.self.now.frame.now) c.args.content.now (h.seen c.loop-rest.runtime) c.loop-rest.rest.now c.in_default.len_below ∙ c.in-Err.ensures why is)

pub returns-in-Ok-clause-leaves : goal.returns-in-Ok-clause-leaves
returns-in-Ok-clause-leaves g c =
    let h = g.R.Runtime in
    let e = nested h.means c.args.self.now.depth c.args.self.now.context.now in
    let b = element_in h.means c.args.self.now c.args.inner.element in
    sym c.loop-rest.invariant.left ∙ (no_clause h.means e b (slots_of c.args.self.now.frame.now) c.args.content.now (h.seen c.loop-rest.runtime) c.loop-rest.rest.now c.in_default.len_below ∙ c.in-Ok.ensures)

pub returns-in-Ok-clause-counts : goal.returns-in-Ok-clause-counts
returns-in-Ok-clause-counts g c =
    let h = g.R.Runtime in
    let e = nested h.means c.args.self.now.depth c.args.self.now.context.now in
    let b = element_in h.means c.args.self.now c.args.inner.element in
    sym c.loop-rest.invariant.count ∙ no_count h.means e b (slots_of c.args.self.now.frame.now) c.args.content.now (h.seen c.loop-rest.runtime) c.loop-rest.rest.now c.in_default.len_below
