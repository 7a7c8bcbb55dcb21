-- What a module of a workspace may fail with: the parts of a module, each with the faults of its stage.
use Rattle.std.specs.Prelude.{◌≡◌, ◌≢◌, ℕ, Bool, true, false, List, map, Some, Ok, Err, IfErr, Contains}
use Rattle.std.specs.List.{AllByRecursion}
use Rattle.bq_base.specs.declared.fault.Fault.{Fault}
use Rattle.bq_base.specs.declared.fault.FaultKind.{FaultKind}
use Rattle.bq_base.specs.declared.fault.FaultKind.TheVariants as f
use Rattle.bq_base.specs.declared.fault.TokenFault.{TokenFault}
use Rattle.bq_base.specs.declared.fault.StatementFault.{StatementFault}
use Rattle.bq_base.specs.declared.fault.NameFault.{NameFault}
use Rattle.bq_base.specs.declared.fault.NameFault.TheVariants.{Nesting}
use Rattle.bq_base.specs.declared.fault.LoadFault.{LoadFault}
use Rattle.bq_base.specs.declared.fault.EvalFault.{EvalFault}
use Rattle.bq_base.specs.Fault.{fault_as, kind_of_token, kind_of_statement, kind_of_name, kind_of_load, kind_of_eval}
use Rattle.bq_source_lexer.specs.Reading.{Lexes}
use Rattle.bq_source.specs.declared.token.Token.{Token}
use Rattle.bq_parse_grammar.specs.Lexeme.{lexemes}
use Rattle.bq_parse_grammar.specs.Parses.{Parses}
use Rattle.bq_parse_grammar.specs.declared.tree.TopLevel.{TopLevel}
use Rattle.bq_resolve_scope.specs.Files.{resolved}
use Rattle.bq_resolve_scope.specs.Universe.{UniverseParts}
use Rattle.bq_resolve_scope.specs.declared.loads.LoadStmt.{LoadStmt}
use Rattle.bq_resolve_scope.specs.declared.file.ResolvedFile.{ResolvedFile}
use Rattle.bq_label.specs.declared.workspace.File.{File}
use Rattle.bq_label.specs.Label.{LabelParts}
use Rattle.bq_label.specs.Packages.{label_file}
use Rattle.bq_label.specs.Workspace.{IsWorkspace}
use Rattle.bq_package_schema.specs.Schema.{Rules}
use Rattle.bq_eval_laws.specs.Evaluations.Files.{IsAtStatement}
use Rattle.bq_base_texts.specs.declared.fault_line.FaultLine.{FaultLine}
use Rattle.bq_load_front.specs.Parsed.{kind_of}
use Rattle.bq_load_front.specs.Inputs.{InputParts, universe_of}
use Rattle.bq_load_front.specs.FileLaws.{TextResolvesTo}
use Rattle.bq_load_discover.specs.LoadGraph.{GraphParts, IsReadGraph, inputs_of}
use Rattle.bq_load.specs.declared.loaded.Loaded.{Loaded}
use Rattle.bq_base.specs.declared.limits.Limits.{Limits}
use Rattle.bq_load.specs.Loaded.{LoadsWithin}
use Rattle.bq_load.specs.Results.{outcomes}
use Rattle.bq_load.specs.Loading.{loading_in}
use Rattle.bq_load.specs.Views.{OutcomeView, outcome_view}

-- a fault of a module is none of the target graph (F79), and none of the schema (F80)
abbrev pub is_of_module : FaultKind → Bool
is_of_module f.DanglingLabel = false
is_of_module f.Schema = false
is_of_module _ = true

-- ---- parts

-- what files of the kind of this one have without binding it
abbrev pub universe_at : InputParts → LabelParts → UniverseParts
universe_at inputs l = universe_of inputs (kind_of l)

-- the fault names the line of one of these loads
pub record IsAtLoad (loads : List LoadStmt) (why : Fault LoadFault) : Type 0 where
  pub load : LoadStmt
  pub among : Contains loads load
  pub line : why.line ≡ load.line

-- The module of this label fails with this fault: its text has no tokens; or these are no statements; or the names of these stand for nothing,
-- though none of them is too deep; or it resolves, and fails by its loads, at the line of one of them, or in its evaluation, at the line of one
-- of its statements. Each of these has the faults of its stage.
pub data FailsIn (inputs : InputParts) (l : LabelParts) (why : Fault FaultKind) : Type 0 where
  of_tokens : (x : File) (at : Fault TokenFault) → label_file inputs.files l ≡ Some x → Lexes x.content (Err at) → why ≡ fault_as kind_of_token at → FailsIn inputs l why
  of_statements : (x : File) (tokens : List Token) (at : Fault StatementFault) → label_file inputs.files l ≡ Some x → Lexes x.content (Ok tokens)
      → Parses (kind_of l) (lexemes x.content tokens) (Err at) → why ≡ fault_as kind_of_statement at → FailsIn inputs l why
  of_names : (x : File) (tokens : List Token) (trees : List TopLevel) (at : Fault NameFault) → label_file inputs.files l ≡ Some x → Lexes x.content (Ok tokens)
      → Parses (kind_of l) (lexemes x.content tokens) (Ok trees) → resolved (universe_at inputs l) trees ≡ Err at → at.kind ≢ Nesting → why ≡ fault_as kind_of_name at → FailsIn inputs l why
  of_loads : (x : File) (file : ResolvedFile) (at : Fault LoadFault) → label_file inputs.files l ≡ Some x → TextResolvesTo (universe_at inputs l) x.content file → IsAtLoad file.loads at
      → why ≡ fault_as kind_of_load at → FailsIn inputs l why
  of_evaluation : (x : File) (file : ResolvedFile) (at : Fault EvalFault) → label_file inputs.files l ≡ Some x → TextResolvesTo (universe_at inputs l) x.content file
      → IsAtStatement file.statements at → why ≡ fault_as kind_of_eval at → FailsIn inputs l why

-- a module's outcome is a value, or a fault of one of its parts
abbrev pub FailsInItsPart : InputParts → OutcomeView → Type 0
FailsInItsPart inputs o = IfErr o.result (λ m. FailsIn inputs o.label m.fault)

-- ---- the laws

-- each outcome of the modules of a load graph
abbrev pub OutcomesFailInTheirParts : Type 0
OutcomesFailInTheirParts =
    (files : List File) (rules : Rules) (limit : ℕ) (g : GraphParts) → IsWorkspace files → IsReadGraph (inputs_of files rules) g
    → AllByRecursion (FailsInItsPart (inputs_of files rules)) (outcomes (loading_in files rules limit g) g.edges)

-- each module of a workspace that is loaded
abbrev pub LoadedModulesFailInTheirParts : Type 0
LoadedModulesFailInTheirParts =
    (files : List File) (rules : Rules) (limits : Limits) (l : Loaded) → IsWorkspace files → LoadsWithin files rules limits (Ok l) → AllByRecursion (FailsInItsPart (inputs_of files rules)) (map outcome_view l.modules.items)

-- whatever part it is, the fault is one of these
abbrev pub FaultsAreOfModules : Type 0
FaultsAreOfModules = (inputs : InputParts) (l : LabelParts) (why : Fault FaultKind) → FailsIn inputs l why → is_of_module why.kind ≡ true

-- each fault line of a workspace that is loaded
abbrev pub FaultLinesAreOfModules : Type 0
FaultLinesAreOfModules =
    (files : List File) (rules : Rules) (limits : Limits) (l : Loaded) → IsWorkspace files → LoadsWithin files rules limits (Ok l) → (line : FaultLine) → Contains l.faults line → is_of_module line.kind ≡ true
