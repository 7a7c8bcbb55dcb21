-- Files as they are parsed, and what they resolve to.
use Rattle.std.specs.Prelude.{◌≡◌, List, Ok}
use Rattle.bq_parse_grammar.specs.Lexeme.{Lexeme}
use Rattle.bq_parse_grammar.specs.Parses.{Parses}
use Rattle.bq_parse_grammar.specs.declared.tree.TopLevel.{TopLevel}
use Rattle.bq_resolve_scope.specs.Files.{resolved}
use Rattle.bq_resolve_scope.specs.Universe.{UniverseParts}
use Rattle.bq_resolve_scope.specs.declared.file.ResolvedFile.{ResolvedFile}

-- a file as it is parsed: the names that every file of its kind has, and its statements
pub record ParsedFile : Type 0 where
  pub universe : UniverseParts
  pub statements : List TopLevel

-- what the file resolves to, which some tokens read as
pub record ResolvesTo (file : ParsedFile) (resolved_file : ResolvedFile) : Type 0 where
  pub lexemes : List Lexeme
  pub parses : Parses file.universe.kind lexemes (Ok file.statements)
  pub names : resolved file.universe file.statements ≡ Ok resolved_file
