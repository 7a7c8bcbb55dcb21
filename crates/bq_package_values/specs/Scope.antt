-- Labels that cross into another package (Bazel, "Labels": a label "must not cross a package boundary").
use Rattle.std.specs.Prelude.{◌≡◌, ℕ, List, Bool, false, not, Option, None, Some, Result, Ok, Err, if◌then◌else◌}
use Rattle.std.specs.List.{list_any}
use Rattle.bq_base.specs.declared.fault.EvalFault.{EvalFault}
use Rattle.bq_base.specs.declared.fault.EvalFault.TheVariants.{CrossesPackage}
use Rattle.bq_label.specs.declared.packages.BuildFile.{BuildFile}
use Rattle.bq_label.specs.Label.{PackageParts, LabelParts, label_in}
use Rattle.bq_label.specs.Paths.{HasNoSlash}
use Rattle.bq_label.specs.Packages.{label_path, owner_of}
use Rattle.bq_package_target.specs.Target.{is_of}

-- another package owns the path that the label names (F37)
unfoldable pub crosses : List BuildFile → LabelParts → Bool
crosses packages l = elim (owner_of packages (label_path l)) [ None ↦ false | Some b ↦ not (is_of b.id l) ]

-- the label is of this package, and crosses into another
unfoldable pub own_label_crosses : PackageParts → List BuildFile → LabelParts → Bool
own_label_crosses own packages l = if is_of own l then crosses packages l else false

-- whether the package's names without a slash cross into another package: all do, or none does
abbrev pub ShortNamesCross : PackageParts → List BuildFile → Bool → Type 0
ShortNamesCross own packages b = (n : List ℕ) → HasNoSlash n → crosses packages (label_in own n) ≡ b

-- the label, or F37 where it is of this package and crosses into another
unfoldable pub inside : PackageParts → List BuildFile → LabelParts → Result LabelParts EvalFault
inside own packages l = if own_label_crosses own packages l then Err CrossesPackage else Ok l

-- the labels, or F37 where one of them is of this package and crosses into another
unfoldable pub all_inside : PackageParts → List BuildFile → List LabelParts → Result (List LabelParts) EvalFault
all_inside own packages ls = if list_any (own_label_crosses own packages) ls then Err CrossesPackage else Ok ls
