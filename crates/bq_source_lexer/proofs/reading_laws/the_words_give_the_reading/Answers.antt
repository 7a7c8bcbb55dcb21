use Rattle.bq_source_lexer.proofs.Converse.{found, complete}
use Rattle.bq_source_lexer.proofs.reading_laws.the_words_give_the_reading.Goals as goal

pub returns-clause-found : goal.returns-clause-found
returns-clause-found c = found

pub returns-clause-complete : goal.returns-clause-complete
returns-clause-complete c = complete
