-- Which files of a package are targets of it (Bazel, Build Encyclopedia, "exports_files"; ours: that a file which is named is one).
use Rattle.std.specs.Prelude.{◌≡◌, ◌⊎◌, ℕ, List, true, false}
use Rattle.std.specs.List.{Contains}
use Rattle.bq_label.specs.Label.{LabelParts, package_of}
use Rattle.bq_package_target.specs.declared.target.Target.{Target}
use Rattle.bq_package_target.specs.Target.{is_source, is_of, names_of, source}
use Rattle.bq_base_texts.specs.NameSet.{has}
use Rattle.bq_package_target.specs.Package.{PackageTargets}
use Rattle.bq_package_target.specs.Dependencies.{WritesLabel}

-- some target of the package writes this label, which is of the package too
pub record IsWritten (p : PackageTargets) (l : LabelParts) : Type 0 where
  pub target : Target
  pub declared : Contains p.targets target
  pub writes : WritesLabel target l
  pub inside : is_of (package_of p.build_file) l ≡ true

-- a file that is a target without a call: the BUILD file, or one that a target of the package writes
abbrev pub IsWanted : PackageTargets → LabelParts → Type 0
IsWanted p l = (l ≡ p.build_file) ⊎ IsWritten p l

-- a source file of no call: its name is no target's that a call declares
pub record IsImplicit (p : PackageTargets) (t : Target) : Type 0 where
  pub label : LabelParts
  pub is : t ≡ source label 0
  pub wanted : IsWanted p label
  pub new : has (names_of p.targets) label.name ≡ false

-- one of the targets has that name
pub record HasTargetNamed (ts : List Target) (name : List ℕ) : Type 0 where
  pub target : Target
  pub known : Contains ts target
  pub named : target.label.name ≡ name

-- one of the names is that of a rule, a file that a rule makes, or a group
pub record HasOtherNamed (ts : List Target) (ls : List LabelParts) : Type 0 where
  pub label : LabelParts
  pub exported : Contains ls label
  pub target : Target
  pub known : Contains ts target
  pub named : target.label.name ≡ label.name
  pub other : is_source target.kind ≡ false
