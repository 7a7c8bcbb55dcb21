-- The modules with their outcomes, one after another.
use Rattle.std.proofs.Common.{◌≡◌, ◌∙◌, ◌+◌, ◌<◌, ℕ, List, [], ◌∷◌, ◌++◌, length, map, drop, get_or, sym, ap, arith, append_assoc}
use Rattle.std.specs.declared.alloc.Global.{Global}
use Rattle.std.specs.declared.sync.Arc.{Arc}
use Rattle.std.proofs.lemmas.List.{drop_more, map-append, length-map, get_or-map}
use Rattle.bq_board.specs.Graph.{Loads}
use Rattle.bq_load_order.specs.Outcome.{outcome}
use Rattle.bq_load_order.specs.declared.outcome.Outcome.{Outcome}
use Rattle.bq_load_order.specs.SharedOutcomes.{shown}
use Rattle.bq_load_order.specs.Slots.{Tabulates}
use Rattle.bq_load_module.specs.declared.outcome.LoadedModule.{LoadedModule}
use Rattle.bq_load_module.specs.declared.outcome.FailedModule.{FailedModule}
use Rattle.bq_load.specs.declared.outcome.ModuleOutcome.{ModuleOutcome}
use Rattle.bq_load_discover.specs.declared.modules.Module.{Module}
use Rattle.bq_load.specs.Views.{OutcomeView, ModuleView, FailedView, module_view, failed_view, outcome_view}
use Rattle.bq_load.specs.Loading.{LoadingParts}
use Rattle.bq_load.specs.Evaluation.{means}
use Rattle.bq_load.specs.Results.{outcome_by, outcome_of, outcomes_from}

abbrev Held : Type 0
Held = Outcome (Arc LoadedModule Global) (Arc FailedModule Global)

module _ (x : LoadingParts) (p : Loads) where
  -- one more is listed
  pub next : (ss : List Module) (m : ℕ) (s : Module) → m < length ss → s ≡ get_or ss m s → (os : List ModuleOutcome) (o : ModuleOutcome) → outcome_view o ≡ outcome_of x p m s → (all : List OutcomeView)
      → map outcome_view os ++ outcomes_from x p m (drop m ss) ≡ all → map outcome_view (os ++ o ∷ []) ++ outcomes_from x p (m + 1) (drop (m + 1) ss) ≡ all
  next ss m s h e os o is all before =
      let left : drop m ss ≡ s ∷ drop (m + 1) ss = drop_more ss m s h ∙ ap (λ (z : Module). z ∷ drop (m + 1) ss) (sym e) in
      let rest : List OutcomeView = outcomes_from x p (m + 1) (drop (m + 1) ss) in
      ap (λ (z : List OutcomeView). z ++ rest) (map-append outcome_view os (o ∷ []))
      ∙ (append_assoc (map outcome_view os) (outcome_view o ∷ []) rest
      ∙ (ap (λ (z : OutcomeView). map outcome_view os ++ (z ∷ rest)) is
      ∙ (ap (λ (z : List Module). map outcome_view os ++ outcomes_from x p m z) (sym left) ∙ before)))

  -- what was found for a module
  pub found_at : (n : ℕ) (found : List Held) → Tabulates n (outcome (means x) p) (map (shown module_view failed_view) found) → (m : ℕ) → m < n → (o : Held) → o ≡ get_or found m o
      → shown module_view failed_view o ≡ outcome (means x) p m
  found_at n found t m h o e =
      let within : m < length found = omega (arith, h, t.wide, length-map found (shown module_view failed_view)) in
      let d = shown module_view failed_view o in
      ap (shown module_view failed_view) e ∙ (sym (get_or-map (shown module_view failed_view) found m o d within) ∙ t.each m d h)

  -- what a module comes to by it
  pub outcome_found : (m : ℕ) (s : Module) (o : OutcomeView) (along : Outcome ModuleView FailedView) → o ≡ outcome_by x s along → along ≡ outcome (means x) p m → o ≡ outcome_of x p m s
  outcome_found m s o along is e = is ∙ ap (outcome_by x s) e
