use Rattle.bq_run.proofs.Bundles.{holds, is_read}
use Rattle.bq_run.proofs.Reading.{written_of_read}
use Rattle.bq_run.proofs.Writing.{files_of_written}
use Rattle.bq_run.proofs.laws.one_reading_of_a_bundle.Goals as goal

pub returns-clause-files : goal.returns-clause-files
returns-clause-files c = λ text files. (written_of_read text files, files_of_written text files)

pub returns-clause-workspace : goal.returns-clause-workspace
returns-clause-workspace c = λ limits text files. (holds limits text files, is_read limits text files)
