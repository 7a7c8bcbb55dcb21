use Rattle.bq_eval_rules.proofs.expressions.+expr_to.Given as goal

abbrev pub decreases-expr_to : goal.decreases-expr_to
decreases-expr_to g l = l.depth
