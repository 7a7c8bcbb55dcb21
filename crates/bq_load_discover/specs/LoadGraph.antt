-- The load graph of a workspace.
use Rattle.std.specs.Prelude.{◌≡◌, ℕ, List, length, map, Some, Result, Ok, Err, slice_get}
use Rattle.std.specs.List.Sorted.{IsStrictlySortedBy}
use Rattle.bq_label.specs.declared.workspace.File.{File}
use Rattle.bq_label.specs.declared.packages.BuildFile.{BuildFile}
use Rattle.bq_label.specs.Label.{LabelParts}
use Rattle.bq_label.specs.Packages.{packages_of}
use Rattle.bq_package_schema.specs.Schema.{Rules}
use Rattle.bq_base.specs.declared.limits.Limits.{Limits}
use Rattle.bq_base.specs.Limits.{standard}
use Rattle.bq_board_plan.specs.Graph.{Loads, Fits, IsGraph}
use Rattle.bq_load_front.specs.Inputs.{InputParts}
use Rattle.bq_load_front.specs.Parsed.{Fronts}
use Rattle.bq_load_front.specs.Reading.{parsed_of}
use Rattle.bq_load_discover.specs.declared.modules.Module.{Module}
use Rattle.bq_load_discover.specs.declared.load_err.LoadErr.{LoadErr}
use Rattle.bq_load_discover.specs.declared.load_err.LoadErr.TheVariants as e
use Rattle.bq_load_discover.specs.Module.{module_of, labels_of, label_cmp}
use Rattle.bq_load_discover.specs.Modules.{AreModules, AreTooMany, edges_from}

-- the labels of the modules, the modules, for each the numbers of those that it loads, and the packages of the workspace
pub record GraphParts : Type 0 where
  pub labels : List LabelParts
  pub modules : List Module
  pub edges : Loads
  pub packages : List BuildFile

-- a module's number is its place in the order of the labels
pub record IsNumbered (g : GraphParts) : Type 0 where
  pub ascending : IsStrictlySortedBy label_cmp g.labels
  pub named : labels_of g.modules ≡ g.labels
  pub long : length g.edges ≡ length g.labels
  pub valid : IsGraph g.edges

-- what is read of the files of a workspace, by a schema
abbrev pub inputs_of : List File → Rules → InputParts
inputs_of files rules = record { files = files; packages = packages_of files; rules = rules.names }

-- the load graph of a workspace: the labels of its modules in order, and for each the numbers of the modules that it loads, each once, in the
-- order in which it first loads them
pub record IsLoadGraph (packages : List BuildFile) (fronts : Fronts) (labels : List LabelParts) (loads : Loads) : Type 0 where
  pub modules : AreModules packages fronts labels
  pub edges : map (map (slice_get labels)) loads ≡ map (λ l. map Some (edges_from fronts l)) labels
  pub valid : IsGraph loads

-- the load graph, with what the code gives for each file, and the packages
pub record IsReadGraph (inputs : InputParts) (g : GraphParts) : Type 0 where
  pub graph : IsLoadGraph inputs.packages (parsed_of inputs) g.labels g.edges
  pub read : g.modules ≡ map (module_of inputs) g.labels
  pub packages : g.packages ≡ inputs.packages

-- the load graph, which keeps these limits, or there are too many modules or edges; memory aside
abbrev pub DiscoversWithin : Limits → InputParts → Result GraphParts LoadErr → Type 0
DiscoversWithin limits inputs (Ok g) = IsReadGraph inputs g × Fits limits g.edges
DiscoversWithin limits inputs (Err why) = (why ≡ e.TooManyModules → AreTooMany limits inputs.packages (parsed_of inputs)) × ((line : ℕ) → ¬ (why ≡ e.Schema line))

-- by the standard limits
abbrev pub Discovers : InputParts → Result GraphParts LoadErr → Type 0
Discovers inputs r = DiscoversWithin standard inputs r
