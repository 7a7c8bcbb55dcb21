-- What the line of a label that names no target says (Bazel, "Dependencies"; ours: the line).
use Rattle.std.specs.Prelude.{◌≡◌, List, false}
use Rattle.std.specs.List.{Contains}
use Rattle.bq_base.specs.declared.fault.FaultKind.TheVariants.{DanglingLabel}
use Rattle.bq_base_texts.specs.declared.fault_line.FaultLine.{FaultLine}
use Rattle.bq_label.specs.Label.{LabelParts, full_form, package_of}
use Rattle.bq_package_target.specs.declared.target.Target.{Target}
use Rattle.bq_package_target.specs.Package.{PackageTargets}
use Rattle.bq_package_target.specs.Target.{is_of}
use Rattle.bq_package_target.specs.Dependencies.{Depends}

-- the line stands at the BUILD file of the package, in the line of the call that declares the target, and has the label that the target
-- writes, which is of another package
pub record IsToldAt (ps : List PackageTargets) (x : FaultLine) : Type 0 where
  pub owner : PackageTargets
  pub known : Contains ps owner
  pub target : Target
  pub declared : Contains owner.targets target
  pub label : LabelParts
  pub writes : Depends target label
  pub elsewhere : is_of (package_of owner.build_file) label ≡ false
  pub kind : x.kind ≡ DanglingLabel
  pub file : x.label ≡ full_form owner.build_file
  pub line : x.line ≡ target.line
  pub detail : x.detail ≡ full_form label
