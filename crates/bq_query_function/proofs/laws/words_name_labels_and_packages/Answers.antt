use Rattle.bq_query_function.proofs.Packages as packages
use Rattle.bq_query_function.proofs.laws.words_name_labels_and_packages.Goals as goal

pub returns : goal.returns
returns c word p t h hl = packages.words_name_labels_and_packages word p t h hl
