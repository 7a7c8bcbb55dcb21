-- What is read of a workspace and its schema.
use Rattle.std.specs.Prelude.{ℕ, List}
use Rattle.bq_parse_grammar.specs.declared.tree.FileKind.{FileKind}
use Rattle.bq_label.specs.declared.workspace.File.{File}
use Rattle.bq_label.specs.declared.packages.BuildFile.{BuildFile}
use Rattle.bq_resolve_scope.specs.Universe.{UniverseParts}

-- the files, the packages, and the names of the rules of the schema, each once
pub record InputParts : Type 0 where
  pub files : List File
  pub packages : List BuildFile
  pub rules : List (List ℕ)

-- what every file of this kind has without binding it
abbrev pub universe_of : InputParts → FileKind → UniverseParts
universe_of inputs kind = record { kind = kind; rules = inputs.rules }
