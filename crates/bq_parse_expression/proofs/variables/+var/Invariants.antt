use Rattle.bq_parse_expression.proofs.variables.+var.Given as goal

abbrev pub decreases-var : goal.decreases-var
decreases-var l = l.depth
