use Rattle.bq_parse_laws.proofs.Verdicts.{verdict_reads, verdict_only}
use Rattle.bq_parse_laws.proofs.statements.one_verdict.Goals as goal

pub returns : goal.returns
returns c kind ts = (verdict_reads kind ts, verdict_only kind ts)
