-- Lines are counted from 1: so no fault names line 0.
use Rattle.std.specs.Prelude.{◌≡◌, ◌≤◌, ℕ, List, Ok, Err}
use Rattle.std.specs.List.{AllByRecursion}
use Rattle.bq_base.specs.declared.fault.StatementFault.{StatementFault}
use Rattle.bq_base.specs.declared.fault.NameFault.{NameFault}
use Rattle.bq_base.specs.declared.fault.Fault.{Fault}
use Rattle.bq_source.specs.declared.token.Token.{Token}
use Rattle.bq_source_lexer.specs.Reading.{Lexes}
use Rattle.bq_parse_grammar.specs.Lexeme.{lexemes}
use Rattle.bq_parse_grammar.specs.Parses.{Parses}
use Rattle.bq_parse_grammar.specs.declared.tree.FileKind.{FileKind}
use Rattle.bq_parse_grammar.specs.declared.tree.TopLevel.{TopLevel}
use Rattle.bq_resolve_scope.specs.Files.{resolved}
use Rattle.bq_resolve_scope.specs.Universe.{UniverseParts}
use Rattle.bq_resolve_scope.specs.declared.file.ResolvedFile.{ResolvedFile}

-- each top-level statement of a text: its line is at least 1
abbrev pub StatementsStand : Type 0
StatementsStand =
    (kind : FileKind) (text : List ℕ) (ts : List Token) (xs : List TopLevel) → Lexes text (Ok ts) → Parses kind (lexemes text ts) (Ok xs) → AllByRecursion (λ x. 1 ≤ x.line) xs

-- the fault of a text whose tokens are no statements: its line is at least 1
abbrev pub StatementFaultsStand : Type 0
StatementFaultsStand = (kind : FileKind) (text : List ℕ) (ts : List Token) (why : Fault StatementFault) → Lexes text (Ok ts) → Parses kind (lexemes text ts) (Err why) → 1 ≤ why.line

-- the fault of a text that reads as statements whose names break a rule: its line is at least 1
abbrev pub NameFaultsStand : Type 0
NameFaultsStand =
    (universe : UniverseParts) (kind : FileKind) (text : List ℕ) (ts : List Token) (xs : List TopLevel) (why : Fault NameFault)
    → Lexes text (Ok ts) → Parses kind (lexemes text ts) (Ok xs) → resolved universe xs ≡ Err why → 1 ≤ why.line

-- each load of a file that resolves: its line is at least 1
abbrev pub LoadsStand : Type 0
LoadsStand =
    (universe : UniverseParts) (kind : FileKind) (text : List ℕ) (ts : List Token) (xs : List TopLevel) (file : ResolvedFile)
    → Lexes text (Ok ts) → Parses kind (lexemes text ts) (Ok xs) → resolved universe xs ≡ Ok file → AllByRecursion (λ l. 1 ≤ l.line) file.loads

-- each top-level statement of a file that resolves: its line is at least 1
abbrev pub ResolvedStatementsStand : Type 0
ResolvedStatementsStand =
    (universe : UniverseParts) (kind : FileKind) (text : List ℕ) (ts : List Token) (xs : List TopLevel) (file : ResolvedFile)
    → Lexes text (Ok ts) → Parses kind (lexemes text ts) (Ok xs) → resolved universe xs ≡ Ok file → AllByRecursion (λ x. 1 ≤ x.line) file.statements
