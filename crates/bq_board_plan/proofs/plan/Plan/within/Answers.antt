use Rattle.std.proofs.Common.{sym, subst, ◌∙◌, true≢false}
use Rattle.bq_board_plan.specs.Cycles.{IsAcyclic}
use Rattle.bq_board_plan.proofs.Paths.{some_cyclic}
use Rattle.bq_board_plan.proofs.plan.Plan.within.Goals as goal

pub returns-then-not-branch-clause-refused : goal.returns-then-not-branch-clause-refused
returns-then-not-branch-clause-refused c = (
  (c.in_ok-graph.ensures.fits, c.in_ok-graph.ensures.valid.1),
  some_cyclic _ (λ a. absurd (true≢false (sym (c.in_ok-is_acyclic.ensures.1 (subst IsAcyclic (sym c.in_ok-graph.ensures.graph) a)) ∙ c.if-not-branch.true))),
)
