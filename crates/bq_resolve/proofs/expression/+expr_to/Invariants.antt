use Rattle.bq_resolve.proofs.expression.+expr_to.Given as goal

abbrev pub decreases-expr_to : goal.decreases-expr_to
decreases-expr_to l = l.depth
