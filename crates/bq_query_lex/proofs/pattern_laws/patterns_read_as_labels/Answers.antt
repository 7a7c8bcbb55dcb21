use Rattle.bq_query_lex.proofs.Readable as readable
use Rattle.bq_query_lex.proofs.pattern_laws.patterns_read_as_labels.Goals as goal

pub returns : goal.returns
returns c word begins = readable.patterns_read_as_labels word begins
