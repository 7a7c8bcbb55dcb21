use Rattle.std.proofs.Common.{◌≡◌, length}
use Rattle.std.specs.List.{All}
use Rattle.bq_source.specs.Spelling.{Lies}
use Rattle.bq_parse_grammar.specs.Lexeme.{lexemes}
use Rattle.bq_parse_grammar.specs.Parses.{statements_of}
use Rattle.bq_parse.proofs.Files.{with_found}
use Rattle.bq_parse.proofs.file.statements.Given as goal

abbrev pub invariant-pieces : goal.invariant-pieces
invariant-pieces l = record {
  lie : All (Lies l.text) l.rest;
  same : statements_of l.kind (lexemes l.text l.tokens) ≡ with_found l.statements (statements_of l.kind (lexemes l.text l.rest));
}

abbrev pub decreases-pieces : goal.decreases-pieces
decreases-pieces l = length l.rest
