use Rattle.std.proofs.Common.{◌≡◌, ℕ, ◌<◌, List, length, get_or, subst, ap, arith}
use Rattle.bq_board_plan.specs.Graph.{row}
use Rattle.bq_board_plan.specs.Depth.{IsOneAbove}
use Rattle.bq_board_plan.proofs.Settling.{Has-get_or}
use Rattle.bq_board_plan.proofs.Deep.{depths_more}
use Rattle.bq_board_plan.proofs.graph.Graph.depths.Goals as goal

pub row-requires : goal.row-requires
row-requires c =
    let xs = c.args.sorted.now.modules.items in let i = c.loop-module.module-index in
    let is : c.as_slice-module-items.result.now ≡ xs = c.as_slice-module-items.ensures.value in
    let h : i < length xs = subst (λ (t : List ℕ). i < length t) is c.loop-module-test.true in
    omega (arith, ap (λ (t : List ℕ). get_or t i 0) is, c.requires.order.within (get_or xs i 0) (Has-get_or xs i h))

pub index_mut-requires : goal.index_mut-requires
index_mut-requires c =
    let xs = c.args.sorted.now.modules.items in let i = c.loop-module.module-index in
    let is : c.as_slice-module-items.result.now ≡ xs = c.as_slice-module-items.ensures.value in
    let h : i < length xs = subst (λ (t : List ℕ). i < length t) is c.loop-module-test.true in
    omega (arith, ap (λ (t : List ℕ). get_or t i 0) is, c.requires.order.within (get_or xs i 0) (Has-get_or xs i h), c.loop-module.invariant.wide, c.loop-module.depths.ok)

pub loop-module-preserved : goal.loop-module-preserved
loop-module-preserved c =
    let p = c.args.self.now in let xs = c.args.sorted.now.modules.items in let i = c.loop-module.module-index in
    let is : c.as_slice-module-items.result.now ≡ xs = c.as_slice-module-items.ensures.value in
    let h : i < length xs = subst (λ (t : List ℕ). i < length t) is c.loop-module-test.true in
    let m : ℕ = get_or c.as_slice-module-items.result.now i 0 in
    let read : IsOneAbove (λ l. get_or c.as_slice.result.now l 0) (row p m) c.depth_by.result = subst (λ (t : List ℕ). IsOneAbove (λ l. get_or c.as_slice.result.now l 0) t c.depth_by.result) c.row.ensures.row c.depth_by.ensures in
    let above : IsOneAbove (λ l. get_or c.loop-module.depths.items l 0) (row p m) c.depth_by.result = subst (λ (t : List ℕ). IsOneAbove (λ l. get_or t l 0) (row p m) c.depth_by.result) c.as_slice.ensures.value read in
    depths_more p xs c.args.sorted.now.pending.items c.requires.order i h c.loop-module.depths.items c.loop-module.invariant m c.depth_by.result (ap (λ (t : List ℕ). get_or t i 0) is) above
