-- A module fails in its order.
use Rattle.std.proofs.Common.{◌≡◌, ◌∙◌, ap, refl, ℕ, inl, inr, List, [], ◌∷◌, Option, Some, None, Result, Ok, Err}
use Rattle.std.specs.Prelude.{not, is_some, slice_get}
use Rattle.bq_base.specs.declared.fault.FaultKind.{FaultKind}
use Rattle.bq_base.specs.declared.fault.FaultKind.TheVariants.{CycleReached, LoadDepth, LoadFailed}
use Rattle.bq_base.specs.declared.fault.LoadFault.{LoadFault}
use Rattle.bq_base.specs.declared.fault.LoadFault.TheVariants as load
use Rattle.bq_base.specs.Fault.{kind_of_load}
use Rattle.bq_base.proofs.Choices.{by_bool}
use Rattle.bq_board.specs.Graph.{Loads, row}
use Rattle.bq_board.specs.Cycles.{is_cyclic}
use Rattle.bq_board.specs.Depth.{is_too_deep}
use Rattle.bq_load_order.specs.Outcome.{load_values, own, evaluated, by_loads, outcome}
use Rattle.bq_load_order.specs.declared.outcome.Outcome.{Outcome}
use Rattle.bq_load_order.proofs.Solution.{solved}
use Rattle.bq_resolve_scope.specs.Names.{Name}
use Rattle.bq_resolve_scope.specs.declared.file.ResolvedFile.{ResolvedFile}
use Rattle.bq_value.specs.Datum.{Datum}
use Rattle.bq_base.specs.declared.fault.Fault.{Fault}
use Rattle.bq_load_front.specs.declared.front.Front.{Front}
use Rattle.bq_load_discover.specs.declared.modules.Module.{Module}
use Rattle.bq_load.specs.Evaluation.{means}
use Rattle.bq_load.specs.Imports.{is_private, global_by, or_no_symbol, exported}
use Rattle.bq_load.specs.Results.{load_fault_by, load_fault, result_of}
use Rattle.bq_load.specs.Loading.{LoadingParts}
use Rattle.bq_load.specs.Views.{ModuleView, FailedView}
use Rattle.bq_builtin_machine.specs.Refusals.{when, fault_in, first_fault, FailsForFirst}
use Rattle.bq_load_laws.specs.Outcomes.Orders.{exporting, failure, load_failed, own_failure, loading}

-- ---- symbols

by_global : (o : Option Datum) → fault_in (or_no_symbol o) ≡ first_fault (when (not (is_some o)) load.NoSymbol ∷ [])
by_global None = refl
by_global (Some v) = refl

pub exported_in_order : (resolved : List (Option ResolvedFile)) (m : Option ModuleView) (name : Name) → FailsForFirst (exported resolved m name) (exporting resolved m name)
unfolding exported
exported_in_order resolved m name = elim (by_bool (is_private name)) [
  | inl t ↦ rw t refl
  | inr t ↦ rw t (by_global (global_by resolved m name))
]

-- ---- modules

module _ (x : LoadingParts) (p : Loads) (m : ℕ) (front : Result Front (Fault FaultKind)) where
  -- a fault of a load is of this kind
  of_kind : (kind : LoadFault) (k : ℕ) → (load_fault x front kind k).kind ≡ kind_of_load kind
  unfolding load_fault
  of_kind kind k = by_module (slice_get x.modules k)
    where
      by_module : (o : Option Module) → (load_fault_by kind front o).kind ≡ kind_of_load kind
      by_module None = refl
      by_module (Some loaded) = refl

  by_value : (r : Result ModuleView FailedView) → failure (result_of x front (own r)) ≡ first_fault (failure r ∷ [])
  by_value (Ok v) = refl
  by_value (Err v) = refl

  by_values : (r : Result (List ModuleView) ℕ) → failure (result_of x front (evaluated (means x m) r)) ≡ first_fault (load_failed r ∷ own_failure x m r ∷ [])
  by_values (Ok vs) = by_value (means x m vs)
  by_values (Err l) = ap Some (of_kind load.LoadFailed l)

  by_graph : (at : ℕ → Outcome ModuleView FailedView)
      → failure (result_of x front (by_loads (means x) p at m)) ≡ first_fault (when (is_cyclic p m) CycleReached ∷ when (is_too_deep p m) LoadDepth ∷ load_failed (load_values at (row p m)) ∷ own_failure x m (load_values at (row p m)) ∷ [])
  unfolding by_loads
  by_graph at = elim (by_bool (is_cyclic p m)) [
    | inl t ↦ rw t (ap Some (of_kind load.CycleReached _))
    | inr t ↦ elim (by_bool (is_too_deep p m)) [
      | inl u ↦ rw (t, u) (ap Some (of_kind load.LoadDepth _))
      | inr u ↦ rw (t, u) (by_values (load_values at (row p m)))
    ]
  ]

  pub failed_in_order : failure (result_of x front (outcome (means x) p m)) ≡ first_fault (loading x p m)
  failed_in_order = ap (λ o. failure (result_of x front o)) ((solved (means x) p).0 m) ∙ by_graph (outcome (means x) p)
