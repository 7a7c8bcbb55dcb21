-- What a module evaluates to, by what its file is on its own and what it gets of the modules that it loads.
use Rattle.std.proofs.Common.{◌≡◌, ◌∙◌, ℕ, List, [], None, Some, Result, Ok, Err, ap}
use Rattle.std.specs.Prelude.{slice_get}
use Rattle.bq_base.specs.declared.fault.FaultKind.{FaultKind}
use Rattle.bq_base.specs.declared.fault.Fault.{Fault}
use Rattle.bq_base.specs.declared.fault.FaultKind.TheVariants as f
use Rattle.bq_base.specs.declared.fault.LoadFault.{LoadFault}
use Rattle.bq_base.specs.Fault.{fault_at}
use Rattle.bq_value.specs.Datum.{Datum}
use Rattle.bq_load_front.specs.declared.front.Front.{Front}
use Rattle.bq_load_discover.specs.declared.modules.Module.{Module}
use Rattle.bq_load.specs.Views.{ModuleView, not_evaluated}
use Rattle.bq_load.specs.Loading.{LoadingParts}
use Rattle.bq_load.specs.Imports.{imports}
use Rattle.bq_load.specs.Evaluation.{by_imports, by_front, by_module, file_means, loaded_parts, means}

module _ (x : LoadingParts) (m : ℕ) (modules : List ModuleView) where
  pub means_no_module : slice_get x.modules m ≡ None → means x m modules ≡ Err (not_evaluated (fault_at f.NoSuchFile 0))
  unfolding means
  means_no_module none = ap (by_module x m modules) none

  means_front : (s : Module) (r : Result Front (Fault FaultKind)) → slice_get x.modules m ≡ Some s → s.front ≡ r → means x m modules ≡ by_front x m s.label modules r
  unfolding means
  means_front s r at is = ap (by_module x m modules) at ∙ ap (by_front x m s.label modules) is

  pub means_fault : (s : Module) (why : Fault FaultKind) → slice_get x.modules m ≡ Some s → s.front ≡ Err why → means x m modules ≡ Err (not_evaluated why)
  means_fault s why at is = means_front s (Err why) at is

  pub means_file : (s : Module) (front : Front) → slice_get x.modules m ≡ Some s → s.front ≡ Ok front
      → (r : Result (List Datum) (Fault LoadFault)) → imports (loaded_parts x front modules) [] front.file.loads front.loads ≡ r → means x m modules ≡ by_imports x m s.label front.file modules r
  unfolding file_means
  means_file s front at is r got = means_front s (Ok front) at is ∙ ap (by_imports x m s.label front.file modules) got
