use Rattle.bq_load_laws.proofs.Tokens.{tokens_count, fault_counts}
use Rattle.bq_load_laws.proofs.line.tokens_stand_on_lines.Goals as goal

pub returns-clause-tokens : goal.returns-clause-tokens
returns-clause-tokens c = tokens_count

pub returns-clause-fault : goal.returns-clause-fault
returns-clause-fault c = fault_counts
