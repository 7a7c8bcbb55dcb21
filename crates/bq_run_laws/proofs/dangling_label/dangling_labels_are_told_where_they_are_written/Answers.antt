use Rattle.bq_run_laws.proofs.DanglingLabels.Lines.{told}
use Rattle.bq_run_laws.proofs.dangling_label.dangling_labels_are_told_where_they_are_written.Goals as goal

pub returns : goal.returns
returns c = told
