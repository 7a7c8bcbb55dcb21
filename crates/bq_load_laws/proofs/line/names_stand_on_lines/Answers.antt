use Rattle.bq_parse_grammar.specs.Lexeme.{lexemes}
use Rattle.bq_load_laws.proofs.Tokens.{tokens_count}
use Rattle.bq_load_laws.proofs.Pieces.{lexemes_numbered}
use Rattle.bq_load_laws.proofs.Names.Files.{fault_stands, resolved_stands}
use Rattle.bq_load_laws.proofs.line.names_stand_on_lines.Goals as goal

pub returns-clause-fault : goal.returns-clause-fault
returns-clause-fault c = λ universe kind text ts xs why h g e. fault_stands universe kind (lexemes text ts) xs why (lexemes_numbered text ts (tokens_count text ts h)) g e

pub returns-clause-loads : goal.returns-clause-loads
returns-clause-loads c = λ universe kind text ts xs file h g e. (resolved_stands universe kind (lexemes text ts) xs file (lexemes_numbered text ts (tokens_count text ts h)) g e).1

pub returns-clause-statements : goal.returns-clause-statements
returns-clause-statements c = λ universe kind text ts xs file h g e. (resolved_stands universe kind (lexemes text ts) xs file (lexemes_numbered text ts (tokens_count text ts h)) g e).0
