use Rattle.std.proofs.Common.{◌≡◌, ℕ, ◌+◌, List, length, arith, sym, subst, ap, ◌∙◌}
use Rattle.std.proofs.lemmas.List.{length-map}
use Rattle.std.proofs.lemmas.Grind.{common_steps}
use Rattle.bq_board_plan.specs.Graph.{row, lists}
use Rattle.bq_board_plan.specs.Sorting.{Adds, Begins, DependentsBelow}
use Rattle.bq_board_plan.proofs.Beginning.{begins_waits, begins_ready, begun, dependents_none, dependents_more, dependents_all}
use Rattle.bq_board_plan.proofs.Rows.{items}
use Rattle.bq_board_plan.proofs.graph.Graph.begin.Goals as goal
use Rattle.bq_board_plan.proofs.graph.Graph.begin.Goals.{then-count-eq0+in_ok-push-2, else-count-eq0}

pub loop-m-init : goal.loop-m-init
loop-m-init c =
    let e = c.in_ok-dependents.ensures in
    let none = dependents_none c.args.self.now _ (omega (arith, length-map c.in_ok-dependents.dependents.items items, c.in_ok-dependents.dependents.ok, e.0, c.len.ensures.len)) e.1 in
    grind (arith, common_steps, none)

pub add_dependent-requires : goal.add_dependent-requires
add_dependent-requires c = grind (arith, common_steps)

pub loop-m-preserved : goal.loop-m-preserved
loop-m-preserved c =
    let n : ℕ = length c.row-loaded.result.now in
    let e : n ≡ length (row c.args.self.now c.loop-m.m) = ap length c.row-loaded.ensures.row in
    let A : List ℕ → Type 0 = λ r. Adds c.loop-m.m r (lists c.loop-m.dependents.items) (lists c.add_dependent.new.dependents.items) in
    let dependents : DependentsBelow c.args.self.now (c.loop-m.m + 1) (lists c.add_dependent.new.dependents.items) =
    dependents_more c.args.self.now _ _ c.loop-m.m c.loop-m.invariant.dependents (subst A c.row-loaded.ensures.row c.in_ok-add_dependent.ensures) in
    let P : List ℕ → List ℕ → Type 0 = λ g k. Begins c.args.self.now (c.loop-m.m + 1) g k in
    elim c.if-count-eq0.branch [
      | then-count-eq0+in_ok-push-2 w ↦ record {
        order = subst (P c.if-count-eq0.order.modules.items) (sym (ap (λ o. o.pending.items) w.order-is ∙ c.in_ok-push.ensures.items))
            (begins_ready c.args.self.now c.loop-m.m c.loop-m.order.modules.items c.loop-m.order.pending.items c.loop-m.invariant.order n e w.if-count-eq0.true c.if-count-eq0.order.modules.items (ap (λ o. o.modules.items) w.order-is ∙ w.in_ok-push-2.ensures.items));
        dependents = dependents;
      }
      | else-count-eq0 w ↦ record {
        order = subst (P c.if-count-eq0.order.modules.items) (sym (ap (λ o. o.pending.items) w.order-is ∙ c.in_ok-push.ensures.items))
            (begins_waits c.args.self.now c.loop-m.m c.loop-m.order.modules.items c.loop-m.order.pending.items c.loop-m.invariant.order n e (omega (arith, w.if-count-eq0.false)) c.if-count-eq0.order.modules.items (ap (λ o. o.modules.items) w.order-is));
        dependents = dependents;
      }
    ]

pub returns-clause-order : goal.returns-clause-order
returns-clause-order c = begun c.args.self.now c.loop-m.m c.loop-m.order.modules.items c.loop-m.order.pending.items (omega (arith, c.len-m-end.ensures.len, c.loop-m-test.false)) (omega (arith, c.len-m-end.ensures.len, c.loop-m.auto.m-end)) c.loop-m.invariant.order

pub returns-clause-dependents : goal.returns-clause-dependents
returns-clause-dependents c = dependents_all c.args.self.now _ c.loop-m.m (omega (arith, c.len-m-end.ensures.len, c.loop-m-test.false)) (omega (arith, c.len-m-end.ensures.len, c.loop-m.auto.m-end)) c.loop-m.invariant.dependents
