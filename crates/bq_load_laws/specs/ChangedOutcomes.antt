-- Which modules of a workspace that changed come to what they came to.
use Rattle.std.specs.Prelude.{◌≡◌, ℕ, ◌<◌, List, length, Some, Ok, slice_get}
use Rattle.bq_label.specs.Label.{LabelParts, package_of}
use Rattle.bq_label_glob.specs.Names.{names_in}
use Rattle.bq_parse_grammar.specs.declared.tree.FileKind.{FileKind}
use Rattle.bq_parse_grammar.specs.declared.tree.FileKind.TheVariants as kinds
use Rattle.bq_board.specs.Cycles.{Reaches}
use Rattle.bq_board.specs.Graph.{Loads, Known, row}
use Rattle.bq_load_front.specs.Parsed.{kind_of}
use Rattle.bq_load_discover.specs.declared.modules.Module.{Module}
use Rattle.bq_load_order.specs.Outcome.{outcome, load_values}
use Rattle.bq_load_order.specs.declared.outcome.Outcome.{Outcome}
use Rattle.bq_load_order.specs.Slots.{Tabulates}
use Rattle.bq_load_order.specs.Again.{had, EvaluatesAs}
use Rattle.bq_load.specs.Evaluation.{means}
use Rattle.bq_load.specs.Loading.{LoadingParts}
use Rattle.bq_load.specs.Views.{ModuleView, FailedView}

-- What counts of what the host of a file of this kind with this label begins with is what it was: the packages; for a BUILD file also the
-- rules, and the names of its own package's files.
abbrev pub BeginsAlike : (x y : LoadingParts) → LabelParts → FileKind → Type 0
BeginsAlike x y l kinds.Bzl = y.packages ≡ x.packages
BeginsAlike x y l kinds.Build = (y.packages ≡ x.packages) × (y.rules ≡ x.rules) × (names_in x.packages (package_of l) y.paths ≡ names_in x.packages (package_of l) x.paths)

-- The modules that loads lead to from this one are what they were, with their labels, numbers and what their files are on their own; so is
-- what counts of what its host begins with; and so are the names of the rules, and the limit of steps.
pub record IsUnchanged (x y : LoadingParts) (p : Loads) (m : ℕ) : Type 0 where
  pub names : y.names ≡ x.names
  pub limit : y.limit ≡ x.limit
  pub read : (l : ℕ) → Reaches p m l → slice_get y.modules l ≡ slice_get x.modules l
  pub host : (s : Module) → slice_get x.modules m ≡ Some s → BeginsAlike x y s.label (kind_of s.label)

-- an unchanged module evaluates in y to what it does in x, by the values that its loads had in x
abbrev pub UnchangedModulesEvaluateAlike : Type 0
UnchangedModulesEvaluateAlike =
    (x y : LoadingParts) (p : Loads) (m : ℕ) → IsUnchanged x y p m → (modules : List ModuleView) → load_values (outcome (means x) p) (row p m) ≡ Ok modules → means y m modules ≡ means x m modules

-- the value or own fault that an unchanged module had in x is what it evaluates to in y, by the values that its loads had
abbrev pub UnchangedModulesKeepTheirOutcomes : Type 0
UnchangedModulesKeepTheirOutcomes =
    (x y : LoadingParts) (p : Loads) → Known p → (outcomes : List (Outcome ModuleView FailedView)) → Tabulates (length p) (outcome (means x) p) outcomes
    → (m : ℕ) → m < length p → IsUnchanged x y p m → EvaluatesAs (had outcomes) p m (means y) m
