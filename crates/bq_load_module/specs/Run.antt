-- What the run of a file ends in: its module, or why it failed. The host has the package of the file. What a BUILD file made is given up
-- once its package is finished: nobody loads one.
use Rattle.std.specs.Prelude.{ℕ, List, [], Option, Some, None, Result, Ok, Err, option_map, option_and_then}
use Rattle.bq_base.specs.Fault.{fault_as, kind_of_eval}
use Rattle.bq_resolve_scope.specs.declared.file.ResolvedFile.{ResolvedFile}
use Rattle.bq_value.specs.Cells.{FrozenView, frozen}
use Rattle.bq_value.specs.Datum.{Datum}
use Rattle.bq_builtin_machine.specs.Action.{Run}
use Rattle.bq_builtin_machine.specs.State.{State}
use Rattle.bq_eval_spec.specs.Frame.{Frame}
use Rattle.bq_eval.specs.Module.{Ended, evaluated, failed, ended, kept_after}
use Rattle.bq_package_target.specs.Package.{PackageTargets, finished}
use Rattle.bq_package.specs.Calls.{HeldPackage, package_in}
use Rattle.bq_load_module.specs.Views.{ModuleView, FailedView}

-- the frozen module of this number with no cell and no global
abbrev pub without_cells : ℕ → FrozenView
without_cells own = frozen (record { own = own; cells = []; loaded = [] }) [] []

-- a module, of its globals, its prints and its package: all of it stays for those who load it, but nothing where there is a package
abbrev pub module_with : FrozenView → List (List ℕ) → Option PackageTargets → ModuleView
module_with made prints p = record { frozen = elim p [ None ↦ made | Some declared ↦ without_cells made.own ]; prints = prints; «package» = p }

-- what an evaluation ends in, with the package that is declared then
abbrev pub module_by : Ended → Option PackageTargets → Result ModuleView FailedView
module_by (evaluated made prints) p = Ok (module_with made prints (option_map finished p))
module_by (failed why prints) p = Err (record { fault = fault_as kind_of_eval why; prints = prints })

-- what the run of a file ends in, with the package that it declares
unfoldable pub module_after : ResolvedFile → List Datum → Run (State × HeldPackage) Frame → Result ModuleView FailedView
module_after file values run = module_by (ended file values run) (option_and_then package_in (kept_after run))
