use Rattle.std.proofs.Common.{ap, sym, ◌∙◌}
use Rattle.bq_board.specs.Board.{blank}
use Rattle.bq_load_workers.proofs.opening.board_of.Goals as goal

pub cut-requires-clause-cyclic : goal.cut-requires-clause-cyclic
cut-requires-clause-cyclic g c = c.requires.cyclic

pub cut-requires-clause-depths : goal.cut-requires-clause-depths
cut-requires-clause-depths g c = c.requires.depths

pub returns-clause-of : goal.returns-clause-of
returns-clause-of g c =
    let is = c.in_ok-open.ensures.plan.1 in
    (ap (λ b. b.evaluator.value) is ∙ c.of-base.ensures.0, ap (λ b. b.graph.value) is ∙ c.of-base.ensures.1)

pub returns-clause-count : goal.returns-clause-count
returns-clause-count g c = c.in_ok-open.ensures.count

pub returns-clause-fresh : goal.returns-clause-fresh
returns-clause-fresh g c k d h =
    let one = c.in_ok-open.ensures.fresh k d h in
    let by = c.in_ok-open.ensures.plan in
    (one.0, one.1 ∙ (λ i. blank (sym by.1 i) (sym by.0 i)))
