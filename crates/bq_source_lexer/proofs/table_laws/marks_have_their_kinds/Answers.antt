use Rattle.bq_source_lexer.proofs.MarkKinds.{found, complete}
use Rattle.bq_source_lexer.proofs.table_laws.marks_have_their_kinds.Goals as goal

pub returns-clause-found : goal.returns-clause-found
returns-clause-found c = found

pub returns-clause-complete : goal.returns-clause-complete
returns-clause-complete c = complete
