use Rattle.bq_parse.proofs.targets.+target_to.Given as goal

abbrev pub decreases-target_to : goal.decreases-target_to
decreases-target_to l = l.depth
