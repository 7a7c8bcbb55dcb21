-- What a module exports (Bazel, "BUILD files" on load statements): what its file itself binds, and nothing that the file loads.
use Rattle.std.specs.Prelude.{◌≡◌, ◌≢◌, false, List, ◌∷◌, ◌++◌, length, Option, Some, Ok, slice_get}
use Rattle.std.specs.List.{AllByRecursion}
use Rattle.bq_resolve_scope.specs.Names.{Name}
use Rattle.bq_resolve_scope.specs.declared.file.ResolvedFile.{ResolvedFile}
use Rattle.bq_value.specs.Datum.{Datum}
use Rattle.bq_load.specs.Imports.{is_private, exported}
use Rattle.bq_load.specs.Views.{ModuleView}

-- of these names, each with a value in the same place, this one is there, and its value is this
pub record IsNamed (name : Name) (names : List Name) (values : List Datum) (v : Datum) : Type 0 where
  pub before : List Name
  pub after : List Name
  pub names_are : names ≡ before ++ name ∷ after
  pub first : AllByRecursion (λ n. n ≢ name) before
  pub value : slice_get values (length before) ≡ Some v

-- a symbol that a module has is one that its file binds outside all functions, with its value there
pub record ExportsItsOwn (resolved : List (Option ResolvedFile)) (m : ModuleView) (file : ResolvedFile) (name : Name) (v : Datum) : Type 0 where
  pub own : exported resolved (Some m) name ≡ Ok v → (is_private name ≡ false) × IsNamed name file.globals m.frozen.cells.globals v
  pub all : is_private name ≡ false → IsNamed name file.globals m.frozen.cells.globals v → exported resolved (Some m) name ≡ Ok v

-- a module whose resolved file is this exports the globals that the file binds and that don't begin with `_`, and no more
abbrev pub ModulesExportTheirOwn : Type 0
ModulesExportTheirOwn =
    (resolved : List (Option ResolvedFile)) (m : ModuleView) (file : ResolvedFile) (name : Name) (v : Datum) → slice_get resolved m.frozen.own ≡ Some (Some file) → ExportsItsOwn resolved m file name v
