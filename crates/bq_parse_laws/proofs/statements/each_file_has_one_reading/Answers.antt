use Rattle.bq_parse_laws.proofs.Verdicts.{file_reads, file_only}
use Rattle.bq_parse_laws.proofs.statements.each_file_has_one_reading.Goals as goal

pub returns : goal.returns
returns c kind ts = (file_reads kind ts, file_only kind ts)
