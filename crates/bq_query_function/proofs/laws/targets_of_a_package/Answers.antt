use Rattle.bq_query_function.proofs.Packages as packages
use Rattle.bq_query_function.proofs.laws.targets_of_a_package.Goals as goal

pub returns : goal.returns
returns c p t rules hp hl = packages.targets_of_a_package p t rules hp hl
