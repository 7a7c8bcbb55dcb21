-- Fault F79: a label of another package that names no target there (Bazel, "Dependencies"). The target that names it stays.
use Rattle.std.specs.Prelude.{◌≡◌, ℕ, List, [], ◌∷◌, Bool, false, if◌then◌else◌}
use Rattle.std.specs.List.{flat_map, Contains}
use Rattle.bq_base.specs.declared.fault.FaultKind.TheVariants as f
use Rattle.bq_label.specs.Label.{LabelParts, package_of, full_form}
use Rattle.bq_base_texts.specs.declared.fault_line.FaultLine.{FaultLine}
use Rattle.bq_base_texts.specs.FaultLine.{sorted_lines}
use Rattle.bq_package_target.specs.declared.target.Target.{Target}
use Rattle.bq_package_target.specs.Target.{is_of, dependencies}
use Rattle.bq_package_target.specs.Package.{PackageTargets}
use Rattle.bq_label_set.specs.Labels.{has_label}
use Rattle.bq_query_target_graph.specs.Order.{all_targets, target_labels}
use Rattle.bq_query_target_graph.specs.BuildFiles.{file_of}
use Rattle.bq_query_target_graph.specs.Edges.{looked_up}

-- the fault's line: the BUILD file, the line of the call that declares the target, and the label
abbrev pub dangling_line : LabelParts → ℕ → LabelParts → FaultLine
dangling_line b line l = record { label = full_form b; line = line; kind = f.DanglingLabel; detail = full_form l }

-- the line of a label, where it is of another package than the BUILD file's and none of the known ones
unfoldable pub dangling : (LabelParts → Bool) → LabelParts → ℕ → LabelParts → List FaultLine
dangling known b line l = if is_of (package_of b) l then [] else (if known l then [] else dangling_line b line l ∷ [])

-- the lines of the labels that a package's targets depend on
abbrev pub dangling_of : (LabelParts → Bool) → PackageTargets → List FaultLine
dangling_of known p = flat_map (λ t. flat_map (dangling known p.build_file t.line) (dependencies t)) p.targets

-- the lines of all packages
unfoldable pub all_dangling : List PackageTargets → List FaultLine
all_dangling ps = flat_map (dangling_of (has_label (target_labels (all_targets ps)))) ps

-- the lines in their order, each once
abbrev pub dangling_lines : List PackageTargets → List FaultLine
dangling_lines ps = sorted_lines (all_dangling ps)

-- the same in words: a target of a package depends on a label of another package that no target has
pub record IsDangling (ps : List PackageTargets) (x : FaultLine) : Type 0 where
  pub owner : PackageTargets
  pub known : Contains ps owner
  pub target : Target
  pub declared : Contains owner.targets target
  pub label : LabelParts
  pub named : Contains (dependencies target) label
  pub elsewhere : is_of (package_of owner.build_file) label ≡ false
  pub missing : has_label (target_labels (all_targets ps)) label ≡ false
  pub line : x ≡ dangling_line owner.build_file target.line label

-- ---- the lines as they are found: target by target, by the labels of all targets and the BUILD files of all packages

-- the lines of labels that a target depends on
abbrev pub dangling_to : List LabelParts → List LabelParts → Target → List LabelParts → List FaultLine
dangling_to ls files t named = flat_map (dangling (has_label ls) (file_of files t.label) t.line) named

-- the lines of a target
abbrev pub dangling_at : List LabelParts → List LabelParts → Target → List FaultLine
dangling_at ls files t = dangling_to ls files t (looked_up t)

-- the lines of targets
abbrev pub dangling_from : List LabelParts → List LabelParts → List Target → List FaultLine
dangling_from ls files ts = flat_map (dangling_at ls files) ts
