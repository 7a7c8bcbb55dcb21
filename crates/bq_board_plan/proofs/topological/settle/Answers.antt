use Rattle.std.proofs.Common.{◌≡◌, ℕ, ◌<◌, ◌≤◌, List, length, get_or, arith, ap, ◌∙◌}
use Rattle.std.proofs.lemmas.List.{get_or_read}
use Rattle.bq_board_plan.specs.Counts.{Has}
use Rattle.bq_board_plan.proofs.Settling.{dependent_open, turn_open, turn_joins, Has-get_or}
use Rattle.std.proofs.lemmas.Grind.{common_steps}
use Rattle.bq_board_plan.proofs.topological.settle.Goals as goal
use Rattle.bq_board_plan.proofs.topological.settle.Goals.{then-left-eq0+in_ok-push, else-left-eq0}

inside : (us pending : List ℕ) (i : ℕ) → ((u : ℕ) → Has us u → u < length pending) → i < length us → get_or us i 0 < length pending
inside us pending i known h = known (get_or us i 0) (Has-get_or us i h)

pub index-requires : goal.index-requires
index-requires c = omega (arith, inside c.args.dependents.now c.args.pending.now.items c.loop-dependent.dependent-index c.requires.known c.loop-dependent-test.true, c.loop-dependent.invariant.wide, c.loop-dependent.pending.ok)

pub index_mut-requires : goal.index_mut-requires
index_mut-requires c = omega (arith, inside c.args.dependents.now c.args.pending.now.items c.loop-dependent.dependent-index c.requires.known c.loop-dependent-test.true, c.loop-dependent.invariant.wide, c.loop-dependent.pending.ok)

pub overflow_sub-left : goal.overflow_sub-left
overflow_sub-left c =
    let x : ℕ = get_or c.args.dependents.now c.loop-dependent.dependent-index 0 in
    let k = inside c.args.dependents.now c.args.pending.now.items c.loop-dependent.dependent-index c.requires.known c.loop-dependent-test.true in
    let read : c.index.result.now ≡ get_or c.loop-dependent.pending.items x 0 = get_or_read c.loop-dependent.pending.items x c.index.result.now (omega (arith, c.loop-dependent.invariant.wide)) c.index.ensures 0 in
    omega (arith, dependent_open c.args.dependents.now c.args.pending.now.items c.loop-dependent.pending.items c.args.order.now.items c.loop-dependent.order.items c.loop-dependent.dependent-index c.loop-dependent.invariant c.requires.pending c.loop-dependent-test.true)

pub loop-dependent-preserved : goal.loop-dependent-preserved
loop-dependent-preserved c =
    let x : ℕ = get_or c.args.dependents.now c.loop-dependent.dependent-index 0 in
    let k = inside c.args.dependents.now c.args.pending.now.items c.loop-dependent.dependent-index c.requires.known c.loop-dependent-test.true in
    let read : c.index.result.now ≡ get_or c.loop-dependent.pending.items x 0 = get_or_read c.loop-dependent.pending.items x c.index.result.now (omega (arith, c.loop-dependent.invariant.wide)) c.index.ensures 0 in
    let one : 1 ≤ c.index.result.now = omega (arith, dependent_open c.args.dependents.now c.args.pending.now.items c.loop-dependent.pending.items c.args.order.now.items c.loop-dependent.order.items c.loop-dependent.dependent-index c.loop-dependent.invariant c.requires.pending c.loop-dependent-test.true) in
    elim c.if-left-eq0.branch [
      | then-left-eq0+in_ok-push w ↦ turn_joins c.args.dependents.now c.args.pending.now.items c.loop-dependent.pending.items c.args.order.now.items c.loop-dependent.order.items c.loop-dependent.dependent-index c.index.result.now c.loop-dependent.invariant c.loop-dependent-test.true k read one (omega arith) c.if-left-eq0.order.items (ap (λ v. v.items) w.order-is ∙ w.in_ok-push.ensures.items)
      | else-left-eq0 w ↦ turn_open c.args.dependents.now c.args.pending.now.items c.loop-dependent.pending.items c.args.order.now.items c.loop-dependent.order.items c.loop-dependent.dependent-index c.index.result.now c.loop-dependent.invariant c.loop-dependent-test.true k read one (omega arith) c.if-left-eq0.order.items (ap (λ v. v.items) w.order-is)
    ]

pub returns : goal.returns
returns c = grind (arith, common_steps)
