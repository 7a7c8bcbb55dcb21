-- What is known of the packages of modules while they are gathered.
use Rattle.std.specs.Prelude.{◌≡◌, List, map, Option, IfSome}
use Rattle.std.specs.List.{All}
use Rattle.bq_label.specs.declared.packages.BuildFile.{BuildFile}
use Rattle.bq_label.specs.Label.{PackageParts, LabelParts}
use Rattle.bq_package_target.specs.PackageOrder.{id_of}
use Rattle.bq_package_target.specs.Package.{PackageTargets}
use Rattle.bq_load.specs.Views.{OutcomeView}
use Rattle.bq_load.specs.Loaded.{package_in}

-- the labels of modules, in their order
abbrev pub labels_of : List OutcomeView → List LabelParts
labels_of os = map (λ o. o.label) os

-- a package, if there is one, is of this directory
abbrev pub IsIn : PackageParts → Option PackageTargets → Type 0
IsIn id p = IfSome p (λ q. id_of q ≡ id)

-- the packages of these BUILD files are of their directories
abbrev pub AreOwn : List OutcomeView → List BuildFile → Type 0
AreOwn os bs = All (λ b. IsIn b.id (package_in os b)) bs
