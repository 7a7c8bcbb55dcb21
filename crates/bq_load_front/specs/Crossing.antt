-- Labels whose path another package owns (Bazel, "Labels": a label "must not cross a package boundary").
use Rattle.std.specs.Prelude.{List, Bool, false, not, ◌&&◌, None, Some, bytes_eq}
use Rattle.bq_label.specs.declared.packages.BuildFile.{BuildFile}
use Rattle.bq_label.specs.Label.{PackageParts, LabelParts}
use Rattle.bq_label.specs.Packages.{label_path, owner_of}

-- the label is of the package
unfoldable pub is_of : LabelParts → PackageParts → Bool
is_of l p = bytes_eq l.repo p.repo && bytes_eq l.package p.package

-- another package than the label's owns the path that it names (F37)
unfoldable pub crosses : List BuildFile → LabelParts → Bool
crosses packages l = elim (owner_of packages (label_path l)) [ Some b ↦ not (is_of l b.id) | None ↦ false ]
