-- What the file of a module is on its own: its statements and the files that its loads name, or its first fault. Names are names here: which
-- slots they get is a matter of the code (`Front`); that it is read in one way, and how, is a matter of the code too (`Reading`).
use Rattle.std.specs.Prelude.{◌≡◌, ℕ, List, [], ◌∷◌, ◌++◌, nat_eq, None, Some, Result, Ok, Err, codes, if◌then◌else◌}
use Rattle.std.specs.List.{ends_with}
use Rattle.bq_base.specs.declared.fault.FaultKind.{FaultKind}
use Rattle.bq_base.specs.declared.fault.Fault.{Fault}
use Rattle.bq_base.specs.declared.fault.FaultKind.TheVariants as f
use Rattle.bq_base.specs.declared.fault.TokenFault.{TokenFault}
use Rattle.bq_base.specs.declared.fault.StatementFault.{StatementFault}
use Rattle.bq_base.specs.declared.fault.NameFault.{NameFault}
use Rattle.bq_base.specs.declared.fault.LoadFault.{LoadFault}
use Rattle.bq_base.specs.Fault.{fault_as, fault_at, kind_of_load, kind_of_name, kind_of_statement, kind_of_token, or_fault_as}
use Rattle.bq_source.specs.declared.token.Token.{Token}
use Rattle.bq_source_lexer.specs.Reading.{Lexes}
use Rattle.bq_parse_grammar.specs.Lexeme.{lexemes}
use Rattle.bq_parse_grammar.specs.Parses.{Parses}
use Rattle.bq_parse_grammar.specs.declared.tree.FileKind.{FileKind}
use Rattle.bq_parse_grammar.specs.declared.tree.FileKind.TheVariants as kinds
use Rattle.bq_parse_grammar.specs.declared.tree.TopLevel.{TopLevel}
use Rattle.bq_resolve_scope.specs.Universe.{UniverseParts}
use Rattle.bq_resolve_laws.specs.Files.{ParsedFile}
use Rattle.bq_resolve_laws.specs.Loads.{WrittenLoad, file_loads}
use Rattle.bq_resolve_laws.specs.Violations.{first, violations}
use Rattle.bq_label.specs.declared.workspace.File.{File}
use Rattle.bq_label.specs.Label.{PackageParts, LabelParts, package_of}
use Rattle.bq_label.specs.Packages.{label_file}
use Rattle.bq_load_front.specs.NamedFile.{load_label}
use Rattle.bq_load_front.specs.Resolved.{◌>>=◌}
use Rattle.bq_load_front.specs.Inputs.{InputParts, universe_of}

-- a file without a fault, and a label for each of its loads
pub record ParsedFront : Type 0 where
  pub file : ParsedFile
  pub loads : List LabelParts

-- ---- its text

-- the text is that of this file: it reads as tokens, these as statements, and they break no rule of names and flow. Or it has this fault: of its
-- tokens, else of its statements, else the first of these rules that is broken.
pub data ReadsAsFile (universe : UniverseParts) (text : List ℕ) (r : Result ParsedFile (Fault FaultKind)) : Type 0 where
  bad_tokens : (why : Fault TokenFault) → Lexes text (Err why) → r ≡ Err (fault_as kind_of_token why) → ReadsAsFile universe text r
  bad_statements : (tokens : List Token) (why : Fault StatementFault) → Lexes text (Ok tokens) → Parses universe.kind (lexemes text tokens) (Err why) → r ≡ Err (fault_as kind_of_statement why) → ReadsAsFile universe text r
  bad_names : (tokens : List Token) (trees : List TopLevel) (why : Fault NameFault) → Lexes text (Ok tokens) → Parses universe.kind (lexemes text tokens) (Ok trees)
      → first (violations universe trees) ≡ Some why → r ≡ Err (fault_as kind_of_name why) → ReadsAsFile universe text r
  good : (tokens : List Token) (trees : List TopLevel) → Lexes text (Ok tokens) → Parses universe.kind (lexemes text tokens) (Ok trees) → violations universe trees ≡ []
      → r ≡ Ok (record { universe = universe; statements = trees }) → ReadsAsFile universe text r

-- ---- its loads

-- the label of the file that a load in this package names, or the load's fault
abbrev pub file_named : InputParts → PackageParts → WrittenLoad → Result LabelParts (Fault LoadFault)
file_named inputs own x = load_label inputs.files inputs.packages own x.line x.label

-- the labels so far, and one for each of these, which are read so; or the fault of the first bad one
unfoldable pub labels_of : {A : Type 0} → (A → Result LabelParts (Fault LoadFault)) → List LabelParts → List A → Result (List LabelParts) (Fault LoadFault)
labels_of read done [] = Ok done
labels_of read done (x ∷ xs) = read x >>= λ l. labels_of read (done ++ l ∷ []) xs

-- a file whose name ends in `.bzl` is a .bzl file; a module of any other name is a BUILD file
unfoldable pub kind_of : LabelParts → FileKind
kind_of l = if ends_with nat_eq l.name (codes ".bzl") then kinds.Bzl else kinds.Build

-- ---- the file of a label

-- a file with the labels that it loads, or the fault of the first bad one
abbrev pub front_from : InputParts → LabelParts → ParsedFile → Result ParsedFront (Fault FaultKind)
front_from inputs l file = or_fault_as kind_of_load (labels_of (file_named inputs (package_of l)) [] (file_loads file.statements)) >>= λ ls. Ok (record { file = file; loads = ls })

-- what the file of this label is; no module of a workspace lacks its file
pub data IsFront (inputs : InputParts) (l : LabelParts) (r : Result ParsedFront (Fault FaultKind)) : Type 0 where
  no_file : label_file inputs.files l ≡ None → r ≡ Err (fault_at f.NoSuchFile 0) → IsFront inputs l r
  found : (x : File) (file : Result ParsedFile (Fault FaultKind)) → label_file inputs.files l ≡ Some x → ReadsAsFile (universe_of inputs (kind_of l)) x.content file
      → r ≡ (file >>= front_from inputs l) → IsFront inputs l r

-- something that the file of each label is
abbrev pub Fronts : Type 0
Fronts = LabelParts → Result ParsedFront (Fault FaultKind)

-- it is that of these files
abbrev pub AreFronts : InputParts → Fronts → Type 0
AreFronts inputs fronts = (l : LabelParts) → IsFront inputs l (fronts l)

-- the labels of the loads of a file: none if it has a fault of its own or a bad load
abbrev pub loads_in : Result ParsedFront (Fault FaultKind) → List LabelParts
loads_in (Err why) = []
loads_in (Ok front) = front.loads
