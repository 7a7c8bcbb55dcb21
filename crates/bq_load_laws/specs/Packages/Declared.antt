-- Where in its BUILD file a target is declared: the top-level statements of the file declare its targets in turn, each in the line of the
-- statement that is running. Only source files, whose lines no fault names, may be in another line, or in none.
use Rattle.std.specs.Prelude.{◌≡◌, ◌⊎◌, ◌++◌, ℕ, List, [], ◌∷◌, Option, Some, None, Ok, IfOk}
use Rattle.std.specs.List.{AllByRecursion, Contains}
use Rattle.bq_label.specs.declared.workspace.File.{File}
use Rattle.bq_label.specs.Label.{LabelParts}
use Rattle.bq_label.specs.Packages.{label_file}
use Rattle.bq_label.specs.Workspace.{IsWorkspace}
use Rattle.bq_resolve_scope.specs.declared.file.FileLine.{FileLine}
use Rattle.bq_resolve_scope.specs.declared.file.ResolvedFile.{ResolvedFile}
use Rattle.bq_package_schema.specs.Schema.{Rules}
use Rattle.bq_package_target.specs.declared.target.Target.{Target}
use Rattle.bq_package_target.specs.Package.{PackageTargets}
use Rattle.bq_package_target.specs.Target.{source}
use Rattle.bq_load_front.specs.Inputs.{InputParts}
use Rattle.bq_load_front.specs.FileLaws.{TextResolvesTo}
use Rattle.bq_load_discover.specs.LoadGraph.{GraphParts, IsReadGraph, inputs_of}
use Rattle.bq_load.specs.declared.loaded.Loaded.{Loaded}
use Rattle.bq_base.specs.declared.limits.Limits.{Limits}
use Rattle.bq_load.specs.Loaded.{LoadsWithin}
use Rattle.bq_load.specs.Results.{outcomes}
use Rattle.bq_load.specs.Loading.{loading_in}
use Rattle.bq_load.specs.Views.{OutcomeView}
use Rattle.bq_load_laws.specs.Faults.Parts.{universe_at}

-- one of these statements is in this line
pub record IsLineOf (statements : List FileLine) (line : ℕ) : Type 0 where
  pub statement : FileLine
  pub among : Contains statements statement
  pub same : line ≡ statement.line

-- a source file
abbrev pub IsFile : Target → Type 0
IsFile t = t ≡ source t.label t.line

-- a source file, or what is declared in this line
abbrev pub IsFileOrIn : ℕ → Target → Type 0
IsFileOrIn line t = IsFile t ⊎ (t.line ≡ line)

-- these statements declare these targets, one statement after another, and each in its own line
pub data AreDeclaredBy : List FileLine → List Target → Type 0 where
  nothing : AreDeclaredBy [] []
  in_turn : (s : FileLine) (later : List FileLine) (first rest all : List Target) → all ≡ first ++ rest → AllByRecursion (IsFileOrIn s.line) first → AreDeclaredBy later rest
      → AreDeclaredBy (s ∷ later) all

-- a package has what calls declare by these statements, and then source files
pub record HasDeclared (statements : List FileLine) (p : PackageTargets) : Type 0 where
  pub called : List Target
  pub others : List Target
  pub targets : p.targets ≡ called ++ others
  pub by_calls : AreDeclaredBy statements called
  pub are_files : AllByRecursion IsFile others

-- so it is of the statements of this file
pub record DeclaresIn (inputs : InputParts) (l : LabelParts) (p : PackageTargets) : Type 0 where
  pub file : File
  pub there : label_file inputs.files l ≡ Some file
  pub resolved : ResolvedFile
  pub has : TextResolvesTo (universe_at inputs l) file.content resolved
  pub declared : HasDeclared resolved.statements p

-- a package is that of its own BUILD file, which declares its targets
abbrev pub DeclaresAllIn : InputParts → LabelParts → Option PackageTargets → Type 0
DeclaresAllIn inputs l None = Unit {0}
DeclaresAllIn inputs l (Some p) = (p.build_file ≡ l) × DeclaresIn inputs l p

-- if the module was evaluated and has a package, the package is that of its own BUILD file, which declares its targets
abbrev pub DeclaresItsTargets : InputParts → OutcomeView → Type 0
DeclaresItsTargets inputs o = IfOk o.result (λ v. DeclaresAllIn inputs o.label v.package)

-- each module of a load graph
abbrev pub OutcomesDeclareTheirTargets : Type 0
OutcomesDeclareTheirTargets =
    (files : List File) (rules : Rules) (limit : ℕ) (g : GraphParts) → IsWorkspace files → IsReadGraph (inputs_of files rules) g
    → AllByRecursion (DeclaresItsTargets (inputs_of files rules)) (outcomes (loading_in files rules limit g) g.edges)

-- each package of a workspace that is loaded, if it has targets: it has none where its BUILD file failed
abbrev pub PackagesDeclareTheirTargets : Type 0
PackagesDeclareTheirTargets =
    (files : List File) (rules : Rules) (limits : Limits) (l : Loaded) → IsWorkspace files → LoadsWithin files rules limits (Ok l)
    → (p : PackageTargets) → Contains l.packages p → (p.targets ≡ []) ⊎ DeclaresIn (inputs_of files rules) p.build_file p
