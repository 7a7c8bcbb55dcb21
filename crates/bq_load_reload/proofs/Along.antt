-- Outcomes of what is the same, and what is kept with them.
use Rattle.std.proofs.Common.{◌≡◌, ◌∙◌, ◌≤◌, ℕ, List, [], length, map, Option, Ok, Err, Result, IfOk, refl, sym, ap, subst, arith}
use Rattle.std.proofs.lemmas.List.{length-map}
use Rattle.bq_base.specs.declared.limits.Limits.{Limits}
use Rattle.bq_label.specs.declared.workspace.File.{File}
use Rattle.bq_label.specs.Label.{LabelParts}
use Rattle.bq_package_schema.specs.Schema.{Rules}
use Rattle.bq_board.specs.Graph.{Loads, Fits}
use Rattle.bq_load_discover.specs.LoadGraph.{GraphParts, IsNumbered, IsReadGraph, inputs_of}
use Rattle.bq_load_discover.specs.Schema.{schema_in}
use Rattle.bq_load_order.specs.Outcome.{outcome}
use Rattle.bq_load_order.specs.declared.outcome.Outcome.{Outcome}
use Rattle.bq_load_order.specs.SharedOutcomes.{shown}
use Rattle.bq_load_order.specs.Slots.{Filling}
use Rattle.bq_load_order.specs.Again.{AreUnchanged, had}
use Rattle.bq_load.specs.Evaluation.{means}
use Rattle.bq_load.specs.Loading.{LoadingParts, loading_in}
use Rattle.bq_load.specs.declared.loaded.Loaded.{Loaded}
use Rattle.bq_load.specs.Loaded.{IsLoaded}
use Rattle.bq_load.specs.Views.{ModuleView, FailedView, module_view, failed_view}
use Rattle.bq_load_reload.specs.declared.kept.Kept.{Kept}
use Rattle.bq_load_changes.specs.Graph.{IsGraphOf}
use Rattle.bq_load_reload.specs.Kept.{AreOutcomes, IsKept, Shared, WereLoaded}

pub same_unchanged : (before : ℕ → Outcome ModuleView FailedView) (p : Loads) (x y : LoadingParts) (was : List (Option ℕ)) → x ≡ y → AreUnchanged before p (means y) was → AreUnchanged before p (means x) was
same_unchanged before p x y was e h = subst (λ (z : LoadingParts). AreUnchanged before p (means z) was) (sym e) h

pub outcomes_so : (x y : LoadingParts) (p q : Loads) (os : List Shared) → x ≡ y → p ≡ q → AreOutcomes x p os → AreOutcomes y q os
outcomes_so x y p q os e f h = subst (λ (r : Loads). AreOutcomes y r os) f (subst (λ (z : LoadingParts). AreOutcomes z p os) e h)

pub outcomes_back : (x y : LoadingParts) (p q : Loads) (os : List Shared) → x ≡ y → p ≡ q → AreOutcomes y q os → AreOutcomes x p os
outcomes_back x y p q os e f h = outcomes_so y x q p os (sym e) (sym f) h

-- there are as many outcomes as modules
pub as_many : (x : LoadingParts) (p : Loads) (os : List Shared) → AreOutcomes x p os → length os ≡ length p
as_many x p os h = sym (length-map os (shown module_view failed_view)) ∙ h.wide

pub is_kept : (files : List File) (rules : Rules) (limits : Limits) (graph : GraphParts) (kept : Kept) → schema_in files ≡ Ok rules → IsReadGraph (inputs_of files rules) graph → IsNumbered graph → Fits limits graph.edges
    → kept.graph ≡ graph → kept.limits ≡ limits → AreOutcomes (loading_in files rules limits.steps graph) graph.edges kept.outcomes.items → IsKept files limits.steps kept
is_kept files rules limits graph kept schema read numbered fits same within outcomes = record {
  is = record {
    rules = rules;
    schema = schema;
    read = subst (λ (g : GraphParts). IsReadGraph (inputs_of files rules) g) (sym same) read;
    numbered = subst (λ (g : GraphParts). IsNumbered g) (sym same) numbered;
  };
  fits = subst (λ (l : Limits). Fits l kept.graph.edges) (sym within) (subst (λ (g : GraphParts). Fits limits g.edges) (sym same) fits);
  outcomes = subst (λ (g : GraphParts). AreOutcomes (loading_in files rules limits.steps g) g.edges kept.outcomes.items) (sym same) outcomes;
}

-- what was kept are the outcomes of files that were loaded
pub were_loaded : (files : List File) (limit : ℕ) (kept : Kept) → IsKept files limit kept → (ls : List LabelParts) (p : Loads) (os : List Shared) → ls ≡ kept.graph.labels → p ≡ kept.graph.edges → os ≡ kept.outcomes.items
    → WereLoaded files limit ls p os
were_loaded files limit kept k ls p os labels edges outcomes = record {
  graph = kept.graph;
  is = k.is;
  labelled = labels;
  loaded = edges;
  outcomes = subst (λ (q : Loads). AreOutcomes (loading_in files k.is.rules limit kept.graph) q os) (sym edges) (subst (λ (z : List Shared). AreOutcomes (loading_in files k.is.rules limit kept.graph) kept.graph.edges z) (sym outcomes) k.outcomes);
}

pub past_is : (files : List File) (limit : ℕ) (ls ks : List LabelParts) (p q : Loads) (os vs : List Shared) → ls ≡ ks → p ≡ q → os ≡ vs → WereLoaded files limit ks q vs → WereLoaded files limit ls p os
past_is files limit ls ks p q os vs a b c w =
    subst (λ (z : List LabelParts). WereLoaded files limit z p os) (sym a) (subst (λ (z : Loads). WereLoaded files limit ks z os) (sym b) (subst (λ (z : List Shared). WereLoaded files limit ks q z) (sym c) w))

pub fits_so : (limits : Limits) (p q : Loads) → p ≡ q → Fits limits q → Fits limits p
fits_so limits p q e f = subst (λ (z : Loads). Fits limits z) (sym e) f

-- ---- what is taken out of what was kept

module _ (files : List File) (limit : ℕ) (kept : Kept) (k : IsKept files limit kept) (g : GraphParts) (taken : g ≡ kept.graph) where
  pub graph_taken : IsGraphOf files g
  graph_taken = subst (λ (z : GraphParts). IsGraphOf files z) (sym taken) k.is

  pub outcomes_taken : (os : List Shared) → os ≡ kept.outcomes.items → WereLoaded files limit g.labels g.edges os
  outcomes_taken os e = were_loaded files limit kept k g.labels g.edges os (ap (λ (z : GraphParts). z.labels) taken) (ap (λ (z : GraphParts). z.edges) taken) e

  pub fits_taken : (limits : Limits) → (kept.limits.modules ≤ limits.modules) × (kept.limits.edges ≤ limits.edges) → Fits limits g.edges
  fits_taken limits w = subst (λ (z : GraphParts). Fits limits z.edges) (sym taken) (omega (arith, w.0, k.fits.0), omega (arith, w.1, k.fits.1))

-- ---- what one load graph has, the same one has

module _ (files : List File) (rules : Rules) (limits : Limits) (g h : GraphParts) (same : g ≡ h) where
  pub read_in : IsReadGraph (inputs_of files rules) h → IsReadGraph (inputs_of files rules) g
  read_in is = subst (λ (z : GraphParts). IsReadGraph (inputs_of files rules) z) (sym same) is

  pub fits_in : Fits limits h.edges → Fits limits g.edges
  fits_in is = subst (λ (z : GraphParts). Fits limits z.edges) (sym same) is

  pub filled_in : (slots : List (Option (Outcome ModuleView FailedView))) → Filling (outcome (means (loading_in files rules limits.steps h)) h.edges) (length h.edges) slots []
      → Filling (outcome (means (loading_in files rules limits.steps g)) g.edges) (length g.edges) slots []
  filled_in slots is = subst (λ (z : GraphParts). Filling (outcome (means (loading_in files rules limits.steps z)) z.edges) (length z.edges) slots []) (sym same) is

  pub loaded_in : (l : Loaded) → IsLoaded (loading_in files rules limits.steps g) g.edges l → IsLoaded (loading_in files rules limits.steps h) h.edges l
  loaded_in l is = subst (λ (z : GraphParts). IsLoaded (loading_in files rules limits.steps z) z.edges l) same is

-- ---- what one call hands to the next

pub refilled : (x y : LoadingParts) (p q : Loads) (slots : List (Option (Outcome ModuleView FailedView))) → x ≡ y → p ≡ q → Filling (outcome (means x) p) (length p) slots [] → Filling (outcome (means y) q) (length q) slots []
refilled x y p q slots d e is = subst (λ (r : Loads). Filling (outcome (means y) r) (length r) slots []) e (subst (λ (z : LoadingParts). Filling (outcome (means z) p) (length p) slots []) d is)

-- what holds of a result holds more weakly
pub weaker : {A E : Type 0} (P Q : A → Type 0) (r : Result A E) → ((a : A) → P a → Q a) → IfOk r P → IfOk r Q
weaker P Q (Ok a) f h = f a h
weaker P Q (Err e) f h = tt
