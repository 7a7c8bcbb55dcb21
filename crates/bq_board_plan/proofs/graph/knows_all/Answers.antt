use Rattle.std.proofs.Common.{ℕ, List, sym, subst, ◌∙◌, arith, true≢false}
use Rattle.std.proofs.lemmas.List.{length-map}
use Rattle.bq_board_plan.specs.Counts.{Has}
use Rattle.bq_board_plan.specs.Graph.{lists}
use Rattle.bq_board_plan.proofs.Rows.{items, row_is, known_more}
use Rattle.std.proofs.lemmas.Grind.{common_steps}
use Rattle.bq_board_plan.proofs.graph.knows_all.Goals as goal

pub returns-then-not-is_below : goal.returns-then-not-is_below
returns-then-not-is_below c = (
  (λ t. absurd (true≢false (sym t))),
  (λ h.
      let at = row_is c.args.rows.now c.loop-row.row-index c.row-item.result c.loop-row-test.true c.row-item.is in
      let wide = length-map c.args.rows.now items in
      absurd (true≢false (sym (c.is_below.ensures.1 (λ x k. omega (arith, h c.loop-row.row-index x (subst (λ (r : List ℕ). Has r x) (c.as_slice.ensures.value ∙ sym at) k)))) ∙ c.if-not-is_below.true))),
)

pub loop-row-preserved : goal.loop-row-preserved
loop-row-preserved c =
    let at = row_is c.args.rows.now c.loop-row.row-index c.row-item.result c.loop-row-test.true c.row-item.is in
    known_more (lists c.args.rows.now) c.loop-row.row-index _ c.loop-row.invariant
    (λ x k. omega (arith, c.is_below.ensures.0 c.if-not-is_below.false x (subst (λ (r : List ℕ). Has r x) (at ∙ sym c.as_slice.ensures.value) k)))

pub returns : goal.returns
returns c = grind (arith, common_steps)
