use Rattle.bq_parse_expression.proofs.expr.+phrase.Given as goal

abbrev pub decreases-phrase : goal.decreases-phrase
decreases-phrase l = l.depth
