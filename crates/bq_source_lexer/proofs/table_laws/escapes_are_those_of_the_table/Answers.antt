use Rattle.bq_source_lexer.proofs.Escapes.{found, others}
use Rattle.bq_source_lexer.proofs.table_laws.escapes_are_those_of_the_table.Goals as goal

pub returns-clause-found : goal.returns-clause-found
returns-clause-found c = found

pub returns-clause-others : goal.returns-clause-others
returns-clause-others c = others
