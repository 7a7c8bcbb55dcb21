use Rattle.bq_eval_rules.proofs.statements.+run_to.Given as goal

abbrev pub decreases-run_to : goal.decreases-run_to
decreases-run_to g l = l.depth
