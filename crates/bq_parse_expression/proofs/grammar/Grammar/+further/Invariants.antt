use Rattle.bq_parse_expression.proofs.grammar.Grammar.+further.Given as goal

abbrev pub decreases-further : goal.decreases-further
decreases-further g l = l.level
