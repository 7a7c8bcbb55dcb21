use Rattle.bq_source_lexer.proofs.OneWay.{one_cutting, one_fault, apart}
use Rattle.bq_source_lexer.proofs.reading_laws.one_reading_in_words.Goals as goal

pub returns-clause-tokens : goal.returns-clause-tokens
returns-clause-tokens c = one_cutting

pub returns-clause-fault : goal.returns-clause-fault
returns-clause-fault c = one_fault

pub returns-clause-apart : goal.returns-clause-apart
returns-clause-apart c = apart
