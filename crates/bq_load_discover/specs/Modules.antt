-- The modules of a workspace: its BUILD files, and all that they load, directly or not (Bazel, "BUILD files" on load statements).
use Rattle.std.specs.Prelude.{◌≡◌, ◌<◌, List, [], length, Some}
use Rattle.std.specs.List.{Contains, IsDistinct, filter_map, flat_map}
use Rattle.std.specs.List.Sorted.{IsStrictlySortedBy}
use Rattle.bq_label.specs.declared.packages.BuildFile.{BuildFile}
use Rattle.bq_label.specs.Label.{LabelParts}
use Rattle.bq_label.specs.Packages.{build_label}
use Rattle.bq_label_set.specs.Labels.{same_label, with_labels}
use Rattle.bq_base.specs.declared.limits.Limits.{Limits}
use Rattle.bq_load_front.specs.Parsed.{Fronts, loads_in}
use Rattle.bq_load_discover.specs.Module.{label_cmp}

-- the label is that of a module, where these are the packages, and what the files of labels are
pub data IsModule (packages : List BuildFile) (fronts : Fronts) : LabelParts → Type 0 where
  build : {l : LabelParts} (b : BuildFile) → Contains packages b → build_label b ≡ Some l → IsModule packages fronts l
  loaded : {l : LabelParts} (m : LabelParts) → IsModule packages fronts m → Contains (loads_in (fronts m)) l → IsModule packages fronts l

-- the labels of the BUILD files
abbrev pub build_labels : List BuildFile → List LabelParts
build_labels packages = filter_map build_label packages

-- the modules, each once, in the order of their labels
pub record AreModules (packages : List BuildFile) (fronts : Fronts) (ls : List LabelParts) : Type 0 where
  pub ascending : IsStrictlySortedBy label_cmp ls
  pub all : (l : LabelParts) → IsModule packages fronts l → Contains ls l
  pub only : (l : LabelParts) → Contains ls l → IsModule packages fronts l

-- what the module loads: two loads of one file are one edge, at its first place
abbrev pub edges_from : Fronts → LabelParts → List LabelParts
edges_from fronts l = with_labels [] (loads_in (fronts l))

-- more labels are modules than these limits allow, or they have more edges
pub data AreTooMany (limits : Limits) (packages : List BuildFile) (fronts : Fronts) : Type 0 where
  modules : (some : List LabelParts) → IsDistinct same_label some → limits.modules < length some → ((l : LabelParts) → Contains some l → IsModule packages fronts l) → AreTooMany limits packages fronts
  edges : (ls : List LabelParts) → AreModules packages fronts ls → limits.edges < length (flat_map (edges_from fronts) ls) → AreTooMany limits packages fronts
