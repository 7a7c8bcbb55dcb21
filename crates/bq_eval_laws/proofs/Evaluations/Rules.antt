-- A rule holds the same attributes after a call, whatever is called.
use Rattle.std.proofs.Common.{◌≡◌, ◌∙◌, ◌<◌, ◌≤◌, ◌⊎◌, inl, inr, ℕ, ◌+◌, ◌-◌, ◌==◌, Bool, true, false, List, Some, slice_get, refl, sym, ap, subst, arith}
use Rattle.std.proofs.lemmas.Bool.{cases_lt}
use Rattle.bq_value_datum.specs.Class.{Class}
use Rattle.bq_resolve_scope.specs.Names.{Name}
use Rattle.bq_value.specs.Cells.{StoreView, module_at, cell_of, content_at}
use Rattle.bq_value.specs.Contents.{rule}
use Rattle.bq_builtin_machine.specs.Action.{Action, Run, done, stopped}
use Rattle.bq_builtin_machine.specs.Machine.{with_steps}
use Rattle.bq_builtin_machine.specs.State.{State}
use Rattle.bq_eval_spec.specs.Calls.{calls}
use Rattle.bq_eval_spec.specs.Slots.{by_slots}
use Rattle.bq_eval.specs.Calling.{HostCalls}
use Rattle.bq_eval.specs.Runtime.{primitives}
use Rattle.bq_eval_laws.proofs.CallRules.{calls_rule}
use Rattle.bq_builtin_laws.specs.Steps.Steps.{hosted, leaving, printed, IsCutShort, Stays, Leaves, Takes}
use Rattle.bq_eval_laws.specs.Evaluations.Files.{HostTakes, CallsKeepRules}
use Rattle.bq_eval_laws.proofs.Evaluations.Hosts.{TakesItsSteps, take_steps}

module _ {W A : Type 0} (action : Action (State × W) A) (s : State × W) (o : Takes hosted action s) (x : A) (t : State × W) (is : action s ≡ done x t) where
  -- by the outcome, with a number of steps more left
  by_outcome : (more : ℕ) (r : Run (State × W) A) → Leaves hosted s.0.store r → leaving hosted more r ≡ done x t → Stays s.0.store t.0.store
  by_outcome more (done y u) stays e = subst (λ r. Leaves hosted s.0.store r) e stays
  by_outcome more (stopped why) stays e = let no : ⊥ = cc in absurd no

  -- an action that ends well leaves what no action changes
  pub stays_after : Stays s.0.store t.0.store
  stays_after = by_steps (cases_lt s.0.steps o.steps)
    where
      by_steps : (s.0.steps < o.steps) ⊎ (o.steps ≤ s.0.steps) → Stays s.0.store t.0.store
      by_steps (inl few) = absurd (subst (λ r. IsCutShort hosted r (printed hosted o.outcome)) is (o.short s.0.steps few))
      by_steps (inr enough) =
          let more : ℕ = s.0.steps - o.steps in
          let at : s.0.steps ≡ o.steps + more = omega (arith, enough) in
          by_outcome more o.outcome o.leaves (sym (ap (λ (n : ℕ). action (with_steps n s.0, s.1)) at ∙ o.enough more) ∙ is)

-- what stays is found in the store as it was
still_there : (s t : StoreView) → Stays s t → (home number : ℕ) (class : Class) (own : Bool) → (home == s.own) ≡ own → content_at s home number ≡ Some (rule class) → content_at t home number ≡ Some (rule class)
unfolding content_at
still_there s t stay home number class true own at =
    let found : slice_get s.cells number ≡ Some (rule class) = rw own at at in
    rw (stay.own, own) (stay.rules number class found)
still_there s t stay home number class false own at =
    let found : cell_of number (module_at home s.loaded) ≡ Some (rule class) = rw own at at in
    rw (stay.own, own, stay.modules) found

module _ {W : Type 0} (names : List Name) (host : HostCalls W) (hosts : HostTakes host) where
  pub rules_stay : CallsKeepRules names host
  rules_stay left units v args s result t is home number class at =
      let owns : Takes hosted (calls left (primitives names host) by_slots units v args) s = calls_rule (primitives names host) by_slots (TakesItsSteps W) (take_steps names host hosts) left units v args s in
      still_there s.0.store t.0.store (stays_after (calls left (primitives names host) by_slots units v args) s owns result t is) home number class (home == s.0.store.own) refl at
