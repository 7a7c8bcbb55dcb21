-- A package in its workspace, with the rules that its BUILD file may call.
use Rattle.std.specs.Prelude.{ℕ, List}
use Rattle.bq_label.specs.declared.packages.BuildFile.{BuildFile}
use Rattle.bq_label.specs.Label.{PackageParts}
use Rattle.bq_label.specs.Workspace.{paths_of}
use Rattle.bq_package_schema.specs.Schema.{Rules}
use Rattle.bq_package.specs.declared.place.Place.{Place}

-- the package, the paths of all files and the packages of the workspace, and the rules of its schema; no file's content counts
pub record PlaceView : Type 0 where
  pub own : PackageParts
  pub paths : List (List ℕ)
  pub packages : List BuildFile
  pub rules : Rules

-- the package, the paths and packages of its workspace, and the rules of the schema, as contracts see them
abbrev pub place_of : Place → PlaceView
place_of p = record { own = p.scope.own.now; paths = paths_of p.workspace.now; packages = p.scope.packages.now; rules = p.schema.now }
