use Rattle.bq_run_device.proofs.Cuts.{cut_reads, whole_reads}
use Rattle.bq_run_device.proofs.laws.cut_files_read_the_same.Goals as goal

pub returns-clause-cut : goal.returns-clause-cut
returns-clause-cut c = cut_reads

pub returns-clause-whole : goal.returns-clause-whole
returns-clause-whole c = whole_reads
