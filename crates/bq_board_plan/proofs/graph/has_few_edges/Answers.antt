use Rattle.std.proofs.Common.{◌≡◌, ℕ, ◌+◌, length, sym, refl, ap, arith, true≢false}
use Rattle.std.proofs.lemmas.List.{length-map}
use Rattle.bq_board_plan.specs.Plan.{start}
use Rattle.bq_board_plan.specs.Graph.{lists}
use Rattle.bq_board_plan.proofs.Rows.{items, row_is}
use Rattle.bq_board_plan.proofs.Edges.{start_none, start_next, start_le, start_whole}
use Rattle.bq_board_plan.proofs.graph.has_few_edges.Goals as goal

pub loop-row-init : goal.loop-row-init
loop-row-init c = omega (arith, start_none (lists c.args.rows.now))

pub returns-then-len-left : goal.returns-then-len-left
returns-then-len-left c =
    let at = row_is c.args.rows.now c.loop-row.row-index c.row-item.result c.loop-row-test.true c.row-item.is in
    let next = start_next (lists c.args.rows.now) c.loop-row.row-index (omega (arith, length-map c.args.rows.now items)) in (
      (λ t. absurd (true≢false (sym t))),
      (λ h. absurd (omega (arith, next, ap (length {A = ℕ}) at, c.row-item.result.ok, start_le (lists c.args.rows.now) (c.loop-row.row-index + 1)))),
    )

pub loop-row-preserved : goal.loop-row-preserved
loop-row-preserved c =
    let at = row_is c.args.rows.now c.loop-row.row-index c.row-item.result c.loop-row-test.true c.row-item.is in
    let next = start_next (lists c.args.rows.now) c.loop-row.row-index (omega (arith, length-map c.args.rows.now items)) in
    omega (arith, next, ap (length {A = ℕ}) at, c.row-item.result.ok, c.loop-row.invariant)

pub returns : goal.returns
returns c = let wide = length-map c.args.rows.now items in
    let last : c.loop-row.row-index ≡ length (lists c.args.rows.now) = omega arith in
    let all = ap (λ (n : ℕ). start (lists c.args.rows.now) n) last in
    ((λ _. omega (arith, all, start_whole (lists c.args.rows.now), c.loop-row.invariant)), λ _. refl)
