use Rattle.bq_run_facts.proofs.Named as named
use Rattle.bq_run_facts.proofs.laws.deps_are_names_of_targets.Goals as goal

pub returns-clause-direct : goal.returns-clause-direct
returns-clause-direct c ps w x t made graph here l = named.direct_are_names_of_targets ps w x t made graph here l

pub returns-clause-edges : goal.returns-clause-edges
returns-clause-edges c ps w x t made here l = named.edges_are_names_of_targets ps w x t made here l
