use Rattle.bq_resolve.proofs.statements.+stmt_to.Given as goal

abbrev pub decreases-stmt_to : goal.decreases-stmt_to
decreases-stmt_to l = l.layers
