use Rattle.bq_source_lexer.proofs.WordKinds.{found, only}
use Rattle.bq_source_lexer.proofs.table_laws.words_have_their_kinds.Goals as goal

pub returns-clause-found : goal.returns-clause-found
returns-clause-found c = found

pub returns-clause-only : goal.returns-clause-only
returns-clause-only c = only
