-- Unpacking gives as many elements as there are targets, so where a file ends each of its globals is bound.
use Rattle.std.proofs.Common.{◌≡◌, ℕ, Bool, true, false, cond, ◌==◌, List, length, Result, Ok, Err, refl, eqb-true}
use Rattle.bq_base.specs.declared.fault.EvalFault.{EvalFault}
use Rattle.bq_base.specs.declared.fault.EvalFault.TheVariants.{BadValue}
use Rattle.bq_resolve_scope.specs.Names.{Name}
use Rattle.bq_value.specs.Datum.{Datum}
use Rattle.bq_builtin_machine.specs.Action.{beside, given}
use Rattle.bq_builtin_machine.specs.Iteration.{elements_in}
use Rattle.bq_builtin_machine.specs.State.{State, started}
use Rattle.bq_eval_by_name.specs.Ends.{Gives}
use Rattle.bq_eval_by_name.proofs.GlobalsBound as bound
use Rattle.bq_eval.specs.Calling.{HostCalls}
use Rattle.bq_eval.specs.Runtime.{primitives}
use Rattle.bq_eval.specs.Unpacking.{just, parts}
use Rattle.bq_eval.specs.Module.{first_store}
use Rattle.bq_eval_by_name.specs.EvaluationAgreement.{GlobalsAreBound, UnpackingCounts}
use Rattle.bq_eval_by_name.specs.Evaluation.{frozen_units, module_run}

module _ {W : Type 0} (count : ℕ) (kept : W) (s : State) where
  elements_by : (t : Bool) (xs : List Datum) → (length xs == count) ≡ t → Gives (λ vs. length vs ≡ count) (beside kept (given (cond t (Ok xs) (Err BadValue)) s))
  elements_by true xs e = eqb-true (length xs) count e
  elements_by false xs e = tt

  parts_by : (r : Result (List Datum) EvalFault) → Gives (λ vs. length vs ≡ count) (beside kept (given (just count r) s))
  parts_by (Ok xs) = elements_by (length xs == count) xs refl
  parts_by (Err why) = tt

module _ {W : Type 0} (rules : List Name) (host : HostCalls W) where
  pub counted : UnpackingCounts rules host
  unfolding primitives parts
  counted count v s = parts_by count s.1 s.0 (elements_in s.0.store v)

  pub globals_are_bound : GlobalsAreBound rules host
  unfolding module_run
  globals_are_bound files number file resolved_file e loaded imports limit kept =
      bound.globals_are_bound (primitives rules host) counted (frozen_units files loaded) number file.universe file.statements resolved_file e imports (started (first_store number loaded) limit, kept)
