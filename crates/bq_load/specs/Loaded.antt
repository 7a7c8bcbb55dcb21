-- What loading a workspace gives: its modules with their outcomes, the packages, the fault lines and the print lines.
use Rattle.std.specs.Prelude.{◌≡◌, ℕ, ◌++◌, List, [], ◌∷◌, map, Option, Some, Result, Ok, Err, codes, option_and_then}
use Rattle.std.specs.List.{find, flat_map, filter_map}
use Rattle.bq_base_texts.specs.declared.fault_line.FaultLine.{FaultLine}
use Rattle.bq_base_texts.specs.FaultLine.{sorted_lines}
use Rattle.bq_label.specs.declared.workspace.File.{File}
use Rattle.bq_label.specs.declared.packages.BuildFile.{BuildFile}
use Rattle.bq_label.specs.Label.{LabelParts, full_form}
use Rattle.bq_label.specs.Packages.{build_label, packages_of}
use Rattle.bq_label_set.specs.Labels.{same_label}
use Rattle.bq_package_schema.specs.Schema.{Rules}
use Rattle.bq_package_target.specs.Package.{PackageTargets, no_targets}
use Rattle.bq_board.specs.Graph.{Loads, Fits}
use Rattle.bq_load_front.specs.Reading.{parsed_of}
use Rattle.bq_load_discover.specs.declared.load_err.LoadErr.{LoadErr}
use Rattle.bq_load_discover.specs.declared.load_err.LoadErr.TheVariants as e
use Rattle.bq_base.specs.declared.limits.Limits.{Limits}
use Rattle.bq_base.specs.Limits.{standard_with}
use Rattle.bq_load_discover.specs.Modules.{AreTooMany}
use Rattle.bq_load_discover.specs.LoadGraph.{GraphParts, IsReadGraph, inputs_of}
use Rattle.bq_load.specs.declared.loaded.Loaded.{Loaded}
use Rattle.bq_load.specs.Views.{ModuleView, FailedView, OutcomeView, outcome_view}
use Rattle.bq_load.specs.Loading.{LoadingParts, loading_in}
use Rattle.bq_load.specs.Results.{outcomes}

-- ---- packages

-- the package that the BUILD file of this label declared: one without targets where it failed
abbrev pub package_by : LabelParts → Result ModuleView FailedView → Option PackageTargets
package_by l (Ok m) = m.package
package_by l (Err m) = Some (no_targets l)

-- the package of a BUILD file, by the module of its label
abbrev pub package_in : List OutcomeView → BuildFile → Option PackageTargets
package_in os b = option_and_then (λ l. option_and_then (λ o. package_by l o.result) (find (λ o. same_label l o.label) os)) (build_label b)

-- the packages of the workspace, in their order
abbrev pub packages_in : List BuildFile → List OutcomeView → List PackageTargets
packages_in bs os = filter_map (package_in os) bs

-- ---- lines

-- the line of the report for a module that failed
abbrev pub line_of : LabelParts → FailedView → FaultLine
line_of l m = record { label = full_form l; line = m.fault.line; kind = m.fault.kind; detail = m.fault.detail }

-- the line of a module, if it failed
abbrev pub lines_by : LabelParts → Result ModuleView FailedView → List FaultLine
lines_by l (Ok m) = []
lines_by l (Err m) = line_of l m ∷ []

-- the lines of all modules that failed, in the order of modules
abbrev pub fault_lines : List OutcomeView → List FaultLine
fault_lines os = flat_map (λ o. lines_by o.label o.result) os

-- `LABEL: TEXT` and a newline
abbrev pub print_line : List ℕ → List ℕ → List ℕ
print_line form text = form ++ (codes ": " ++ (text ++ 10 ∷ []))

-- what a module printed, also before it failed
abbrev pub prints_by : Result ModuleView FailedView → List (List ℕ)
prints_by (Ok m) = m.prints
prints_by (Err m) = m.prints

-- what a module printed, also one that failed then
abbrev pub prints_of : OutcomeView → List ℕ
prints_of o = flat_map (print_line (full_form o.label)) (prints_by o.result)

-- modules by their labels, in each by the order of its calls
abbrev pub print_lines : List OutcomeView → List ℕ
print_lines os = flat_map prints_of os

-- ---- all

-- what modules with these outcomes give, in a workspace with these packages
pub record IsGathered (bs : List BuildFile) (os : List OutcomeView) (l : Loaded) : Type 0 where
  pub modules : map outcome_view l.modules.items ≡ os
  pub packages : l.packages ≡ packages_in bs os
  pub faults : l.faults ≡ sorted_lines (fault_lines os)
  pub prints : l.prints ≡ print_lines os

-- what these modules and loads give
abbrev pub IsLoaded : LoadingParts → Loads → Loaded → Type 0
IsLoaded x p l = IsGathered x.packages (outcomes x p) l

-- no load graph keeps these limits, memory aside: there are too many modules or edges
abbrev pub HasNoGraph : Limits → List File → Rules → LoadErr → Type 0
HasNoGraph limits files rules why = (why ≡ e.TooManyModules → AreTooMany limits (packages_of files) (parsed_of (inputs_of files rules))) × ((line : ℕ) → ¬ (why ≡ e.Schema line))

-- what loading the workspace returns, by these limits
abbrev pub LoadsWithin : List File → Rules → Limits → Result Loaded LoadErr → Type 0
LoadsWithin files rules limits (Ok l) = (g : GraphParts) × IsReadGraph (inputs_of files rules) g × IsLoaded (loading_in files rules limits.steps g) g.edges l × Fits limits g.edges
LoadsWithin files rules limits (Err why) = HasNoGraph limits files rules why

-- by the standard limits, with `limit` steps for each module
abbrev pub LoadsWorkspace : List File → Rules → ℕ → Result Loaded LoadErr → Type 0
LoadsWorkspace files rules limit r = LoadsWithin files rules (standard_with limit) r
