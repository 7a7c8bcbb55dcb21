use Rattle.std.proofs.Common.{get_or, sym, inl, inr, arith, true≢false}
use Rattle.bq_board_plan.proofs.Settling.{Has-get_or}
use Rattle.bq_board_plan.proofs.Rows.{Has_take_more}
use Rattle.std.proofs.lemmas.Grind.{common_steps}
use Rattle.bq_board_plan.proofs.graph.is_below.Goals as goal

pub returns-then-l-bound : goal.returns-then-l-bound
returns-then-l-bound c = (
  (λ t. absurd (true≢false (sym t))),
  (λ h. absurd (omega (arith, h (get_or c.args.loaded.now c.loop-l.l-index 0) (Has-get_or c.args.loaded.now c.loop-l.l-index c.loop-l-test.true)))),
)

pub loop-l-preserved : goal.loop-l-preserved
loop-l-preserved c x h = elim (Has_take_more c.args.loaded.now c.loop-l.l-index x c.loop-l-test.true h) [ inl k ↦ c.loop-l.invariant x k | inr k ↦ omega arith ]

pub returns : goal.returns
returns c = grind (arith, common_steps)
