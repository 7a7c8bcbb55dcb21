-- The BUILD files of packages.
use Rattle.std.specs.Prelude.{List, map}
use Rattle.std.specs.List.{find}
use Rattle.std.specs.List.Sorted.{IsStrictlySortedBy}
use Rattle.std.specs.Option.{unwrap_or}
use Rattle.bq_label.specs.Label.{LabelParts, package_of}
use Rattle.bq_label.specs.Packages.{id_cmp}
use Rattle.bq_package_target.specs.Target.{is_of}
use Rattle.bq_package_target.specs.Package.{PackageTargets}

-- the labels of packages' BUILD files
abbrev pub build_files : List PackageTargets → List LabelParts
build_files ps = map (λ p. p.build_file) ps

-- BUILD files in the order of their packages, none of them twice
abbrev pub FilesAscend : List LabelParts → Type 0
FilesAscend files = IsStrictlySortedBy (λ a b. id_cmp (package_of a) (package_of b)) files

-- the BUILD file of a label's package; the label itself where there is none
unfoldable pub file_of : List LabelParts → LabelParts → LabelParts
file_of files l = unwrap_or (find (is_of (package_of l)) files) l
