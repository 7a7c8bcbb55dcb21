-- Words of the laws.
use Rattle.std.specs.Prelude.{◌≡◌, ◌↔◌, ℕ, List, [], ◌∷◌, ◌++◌, map, Result, Ok, Err}
use Rattle.std.specs.List.{Contains}
use Rattle.bq_base.specs.declared.fault.FaultKind.{FaultKind}
use Rattle.bq_base.specs.declared.fault.TokenFault.{TokenFault}
use Rattle.bq_base.specs.declared.fault.StatementFault.{StatementFault}
use Rattle.bq_base.specs.declared.fault.NameFault.{NameFault}
use Rattle.bq_base.specs.declared.fault.LoadFault.{LoadFault}
use Rattle.bq_base.specs.declared.fault.Fault.{Fault}
use Rattle.bq_base.specs.Fault.{fault_as, kind_of_name, kind_of_statement, kind_of_token}
use Rattle.bq_source.specs.declared.token.Token.{Token}
use Rattle.bq_source_lexer.specs.Reading.{Lexes}
use Rattle.bq_parse_grammar.specs.declared.tree.TopLevel.{TopLevel}
use Rattle.bq_parse_grammar.specs.Lexeme.{lexemes}
use Rattle.bq_parse_grammar.specs.Parses.{Parses}
use Rattle.bq_label.specs.Label.{PackageParts, LabelParts, package_of}
use Rattle.bq_resolve_scope.specs.declared.file.ResolvedFile.{ResolvedFile}
use Rattle.bq_resolve_scope.specs.Universe.{UniverseParts}
use Rattle.bq_resolve_scope.specs.Files.{resolved}
use Rattle.bq_resolve_laws.specs.Files.{ParsedFile}
use Rattle.bq_resolve_laws.specs.Loads.{WrittenLoad}
use Rattle.bq_load_front.specs.Resolved.{resolved_file}
use Rattle.bq_load_front.specs.Inputs.{InputParts}
use Rattle.bq_load_front.specs.Parsed.{ParsedFront, ReadsAsFile, IsFront, file_named, labels_of}
use Rattle.bq_load_front.specs.Reading.{file_of_text, parsed_of, loads_of}

-- the text reads as tokens, these as statements, and the statements resolve to this file
pub record TextResolvesTo (universe : UniverseParts) (text : List ℕ) (file : ResolvedFile) : Type 0 where
  pub tokens : List Token
  pub reads : Lexes text (Ok tokens)
  pub trees : List TopLevel
  pub parses : Parses universe.kind (lexemes text tokens) (Ok trees)
  pub names : resolved universe trees ≡ Ok file

-- the text has this fault
pub data HasFault (universe : UniverseParts) (text : List ℕ) (why : Fault FaultKind) : Type 0 where
  of_tokens : (at : Fault TokenFault) → Lexes text (Err at) → why ≡ fault_as kind_of_token at → HasFault universe text why
  of_statements : (tokens : List Token) (at : Fault StatementFault) → Lexes text (Ok tokens) → Parses universe.kind (lexemes text tokens) (Err at) → why ≡ fault_as kind_of_statement at
      → HasFault universe text why
  of_names : (tokens : List Token) (trees : List TopLevel) (at : Fault NameFault) → Lexes text (Ok tokens) → Parses universe.kind (lexemes text tokens) (Ok trees) → resolved universe trees ≡ Err at
      → why ≡ fault_as kind_of_name at → HasFault universe text why

-- `file_of_text` gives what a text reads as, and a text reads as nothing else
abbrev pub FilesOfTexts : Type 0
FilesOfTexts = (universe : UniverseParts) (text : List ℕ) (r : Result ParsedFile (Fault FaultKind)) → (file_of_text universe text ≡ r) ↔ ReadsAsFile universe text r

-- the function that reads the file of a label gives what it is, and nothing else is
abbrev pub FrontsOfLabels : Type 0
FrontsOfLabels = (inputs : InputParts) (l : LabelParts) (r : Result ParsedFront (Fault FaultKind)) → (parsed_of inputs l ≡ r) ↔ IsFront inputs l r

-- `resolved_file` gives a file exactly where the text's tokens, statements and names resolve to it
abbrev pub ResolvedFilesOfTexts : Type 0
ResolvedFilesOfTexts = (universe : UniverseParts) (text : List ℕ) (file : ResolvedFile) → (resolved_file universe text ≡ Ok file) ↔ TextResolvesTo universe text file

-- `resolved_file` gives a fault exactly where the text's tokens, statements or names have it
abbrev pub FaultsOfFiles : Type 0
FaultsOfFiles = (universe : UniverseParts) (text : List ℕ) (why : Fault FaultKind) → (resolved_file universe text ≡ Err why) ↔ HasFault universe text why

-- what is read of a load that names the file of this label
abbrev pub named : LabelParts → Result LabelParts (Fault LoadFault)
named l = Ok l

module _ {A : Type 0} (read : A → Result LabelParts (Fault LoadFault)) where
  -- each of these loads, which are read so, names the file of the label in its place
  abbrev pub NameFiles : List A → List LabelParts → Type 0
  NameFiles loads ls = map read loads ≡ map named ls

  -- the first load that names no file has this fault
  pub record IsFirstBadLoad (loads : List A) (why : Fault LoadFault) : Type 0 where
    pub before : List A
    pub load : A
    pub after : List A
    pub split : loads ≡ before ++ load ∷ after
    pub labels : List LabelParts
    pub earlier : NameFiles before labels
    pub bad : read load ≡ Err why

-- a load in this package names the file of this label
pub record IsNamed (inputs : InputParts) (own : PackageParts) (l : LabelParts) : Type 0 where
  pub load : WrittenLoad
  pub names : file_named inputs own load ≡ Ok l

-- what a module loads is named by a load in its package
abbrev pub LoadedFiles : Type 0
LoadedFiles = (inputs : InputParts) (m l : LabelParts) → Contains (loads_of inputs m) l → IsNamed inputs (package_of m) l

-- the labels of these loads are those of the files that they name, or the fault is that of the first bad one
abbrev pub AreRead : {A : Type 0} → (A → Result LabelParts (Fault LoadFault)) → List A → Type 0
AreRead read loads =
    ((ls : List LabelParts) → (labels_of read [] loads ≡ Ok ls) ↔ NameFiles read loads ls)
    × ((why : Fault LoadFault) → (labels_of read [] loads ≡ Err why) ↔ IsFirstBadLoad read loads why)

-- the loads of a file in the package `own` are read as the files that they name, or for the first bad one
abbrev pub LoadsOfFiles : Type 0
LoadsOfFiles = (inputs : InputParts) (own : PackageParts) (loads : List WrittenLoad) → AreRead (file_named inputs own) loads
