-- Which package a module has that was evaluated (Bazel, "Repositories, workspaces, packages, and targets": a package is a BUILD file's).
use Rattle.std.specs.Prelude.{◌≡◌, ℕ, List, Option, Some, None, slice_get, IfOk}
use Rattle.bq_parse_grammar.specs.declared.tree.FileKind.{FileKind}
use Rattle.bq_parse_grammar.specs.declared.tree.FileKind.TheVariants as kinds
use Rattle.bq_label.specs.Label.{LabelParts}
use Rattle.bq_board.specs.Graph.{Loads}
use Rattle.bq_package_target.specs.Package.{PackageTargets}
use Rattle.bq_load_front.specs.Parsed.{kind_of}
use Rattle.bq_load_discover.specs.declared.modules.Module.{Module}
use Rattle.bq_load.specs.Views.{ModuleView}
use Rattle.bq_load.specs.Loading.{LoadingParts}
use Rattle.bq_load.specs.Evaluation.{means}
use Rattle.bq_load.specs.Results.{outcome_of}

-- a BUILD file's package is that of its own label; a .bzl file has none
abbrev pub IsOwnOf : FileKind → LabelParts → Option PackageTargets → Type 0
IsOwnOf kinds.Bzl l p = p ≡ None
IsOwnOf kinds.Build l None = ⊥
IsOwnOf kinds.Build l (Some p) = p.build_file ≡ l

-- a file that evaluates gives the package of its own label if it is a BUILD file, none if it is a .bzl file
abbrev pub FilesMakeTheirPackages : Type 0
FilesMakeTheirPackages =
    (x : LoadingParts) (m : ℕ) (modules : List ModuleView) (s : Module) → slice_get x.modules m ≡ Some s → IfOk (means x m modules) (λ v. IsOwnOf (kind_of s.label) s.label v.package)

-- the same of each module that has a value by the recursion along loads
abbrev pub OutcomesHaveTheirPackages : Type 0
OutcomesHaveTheirPackages =
    (x : LoadingParts) (p : Loads) (m : ℕ) (s : Module) → slice_get x.modules m ≡ Some s → IfOk (outcome_of x p m s).result (λ v. IsOwnOf (kind_of s.label) s.label v.package)
