use Rattle.bq_facts.proofs.NamedLabels as names
use Rattle.bq_facts.proofs.laws.names_are_dependencies.Goals as goal

pub returns-clause-labels : goal.returns-clause-labels
returns-clause-labels c t l = names.names_are_dependencies t l

pub returns-clause-order : goal.returns-clause-order
returns-clause-order c t valid = names.names_ascend t valid
