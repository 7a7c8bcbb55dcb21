use Rattle.bq_load_front.proofs.Fronts as fronts
use Rattle.bq_load_front.proofs.file_laws.fronts_of_labels.Goals as goal

pub returns : goal.returns
returns c = fronts.fronts_of_labels
