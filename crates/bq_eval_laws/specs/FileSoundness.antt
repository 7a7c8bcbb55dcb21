-- The law of soundness.
use Rattle.std.specs.Prelude.{◌≡◌, List, Ok}
use Rattle.bq_parse_grammar.specs.Lexeme.{Lexeme}
use Rattle.bq_parse_grammar.specs.Parses.{Parses}
use Rattle.bq_parse_grammar.specs.declared.tree.FileKind.{FileKind}
use Rattle.bq_parse_grammar.specs.declared.tree.TopLevel.{TopLevel}
use Rattle.bq_resolve_scope.specs.declared.file.ResolvedFile.{ResolvedFile}
use Rattle.bq_resolve_scope.specs.Universe.{UniverseParts}
use Rattle.bq_resolve_scope.specs.Files.{resolved}
use Rattle.bq_eval_laws.specs.Sound.{FileIsSound}

-- of a file that is parsed and resolved, all trees are sound
abbrev pub EachResolvedFileIsSound : Type 0
EachResolvedFileIsSound =
    (kind : FileKind) (ts : List Lexeme) (xs : List TopLevel) (universe : UniverseParts) (file : ResolvedFile) → Parses kind ts (Ok xs) → resolved universe xs ≡ Ok file → FileIsSound file
