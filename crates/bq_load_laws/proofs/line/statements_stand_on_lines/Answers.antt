use Rattle.bq_parse_grammar.specs.Lexeme.{lexemes}
use Rattle.bq_load_laws.proofs.Tokens.{tokens_count}
use Rattle.bq_load_laws.proofs.Pieces.{lexemes_numbered, statements_count, fault_counts}
use Rattle.bq_load_laws.proofs.line.statements_stand_on_lines.Goals as goal

pub returns-clause-statements : goal.returns-clause-statements
returns-clause-statements c = λ kind text ts xs h g. statements_count kind (lexemes text ts) xs (lexemes_numbered text ts (tokens_count text ts h)) g

pub returns-clause-fault : goal.returns-clause-fault
returns-clause-fault c = λ kind text ts why h g. fault_counts kind (lexemes text ts) why (lexemes_numbered text ts (tokens_count text ts h)) g
