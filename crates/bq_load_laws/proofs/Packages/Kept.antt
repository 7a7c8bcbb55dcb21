-- Nobody loads a BUILD file, so nobody sees what its module keeps.
use Rattle.std.proofs.Common.{◌≡◌, ◌∙◌, ℕ, zero, suc, Bool, true, false, cond, List, [], ◌∷◌, map, get_or, Option, Some, None, Result, Ok, Err, slice_get, refl, sym, ap, subst, arith}
use Rattle.std.specs.Prelude.{IfOk}
use Rattle.bq_parse_grammar.specs.declared.tree.FileKind.{FileKind}
use Rattle.bq_parse_grammar.specs.declared.tree.FileKind.TheVariants as kinds
use Rattle.bq_label.specs.declared.workspace.File.{File}
use Rattle.bq_label.specs.Label.{LabelParts}
use Rattle.bq_package_schema.specs.Schema.{Rules}
use Rattle.bq_package_target.specs.Package.{PackageTargets}
use Rattle.bq_value.specs.Cells.{FrozenView}
use Rattle.bq_board.specs.Counts.{Has}
use Rattle.bq_board.specs.Cycles.{is_cyclic, starts_path}
use Rattle.bq_board.specs.Depth.{max_load_depth, is_too_deep}
use Rattle.bq_board.specs.Graph.{Loads, row}
use Rattle.bq_load_front.specs.Parsed.{kind_of}
use Rattle.bq_load_front.specs.Reading.{parsed_of}
use Rattle.bq_load_front.specs.Inputs.{InputParts}
use Rattle.bq_load_discover.specs.LoadGraph.{GraphParts, IsReadGraph, inputs_of}
use Rattle.bq_load_discover.specs.Module.{module_of}
use Rattle.bq_load_discover.specs.Modules.{edges_from}
use Rattle.bq_load_order.specs.Outcome.{first, load_values, own, evaluated, by_loads, outcome, IsByLoads}
use Rattle.bq_load_order.specs.declared.outcome.Outcome.{Outcome}
use Rattle.bq_load_order.specs.declared.outcome.Outcome.TheVariants as o
use Rattle.bq_load_order.proofs.Solution.{values_same, outcome_is, solved}
use Rattle.bq_load_discover.specs.declared.modules.Module.{Module}
use Rattle.bq_load.specs.Evaluation.{means}
use Rattle.bq_load.specs.Results.{result_of}
use Rattle.bq_load.specs.Loading.{LoadingParts, loading_in}
use Rattle.bq_load.specs.Views.{ModuleView, FailedView}
use Rattle.bq_load_laws.specs.Packages.Kept.{frozen_by, with_frozen, result_with, keeping, outcome_with, OutcomesStay, ResultsTellTheSame}
use Rattle.bq_load_laws.specs.Packages.Packages.{IsOwnOf}
use Rattle.bq_load_laws.proofs.Calls.Files.{loaded_is_bzl}
use Rattle.bq_load_laws.proofs.Graphs.Nothing.{At, both}
use Rattle.bq_load_laws.proofs.Outcomes.Read.{module_at}
use Rattle.bq_load_laws.proofs.Packages.Outcomes.{has_its_own}

-- a module that isn't there loads nothing
no_row : (p : Loads) (m : ℕ) → slice_get p m ≡ None → row p m ≡ []
no_row [] m e = refl
no_row (r ∷ p) zero e = absurd (cc)
no_row (r ∷ p) (suc m) e = no_row p m e

module _ (files : List File) (rules : Rules) (limit : ℕ) (g : GraphParts) (is : IsReadGraph (inputs_of files rules) g) where
  abbrev inputs : InputParts
  inputs = inputs_of files rules

  abbrev x : LoadingParts
  x = loading_in files rules limit g

  abbrev at : ℕ → Outcome ModuleView FailedView
  at = outcome (means x) g.edges

  -- ---- what is loaded has no package

  loader : (m k : ℕ) → Has (row g.edges m) k → (r : Option (List ℕ)) → slice_get g.edges m ≡ r → At g.labels m (λ _. Unit {0})
  loader m k h None e = let never : Has [] k = subst (λ (z : List ℕ). Has z k) (no_row g.edges m e) h in absurd (omega (arith, never))
  loader m k h (Some r) e =
      let l = both (λ (l : LabelParts). map Some (edges_from (parsed_of inputs) l)) (map (slice_get g.labels)) g.labels g.edges m r (sym is.graph.edges) e in
      record { element = l.element; there = l.there; holds = tt }

  no_package : (m k : ℕ) → Has (row g.edges m) k → (v : ModuleView) → at k ≡ o.Loaded v → v.package ≡ None
  no_package m k h v e =
      let l = loader m k h (slice_get g.edges m) refl in
      let b = loaded_is_bzl inputs g is m l.element l.there k h in
      let s : Module = module_of inputs b.label in
      let its_own : IsOwnOf (kind_of b.label) b.label v.package =
      subst (λ (z : Outcome ModuleView FailedView). IfOk (result_of x s.front z) (λ w. IsOwnOf (kind_of b.label) b.label w.package)) e (has_its_own x g.edges k s (module_at inputs x g.labels is.read k b.label b.at)) in
      subst (λ (z : FileKind). IsOwnOf z b.label v.package) b.bzl its_own

  -- ---- so what modules with one keep is nothing to those that load

  module _ (kept : ℕ → FrozenView) where
    abbrev kept_at : ℕ → Outcome ModuleView FailedView
    kept_at m = outcome_with (kept m) (at m)

    same_outcome : (k : ℕ) (one : Outcome ModuleView FailedView) → ((v : ModuleView) → one ≡ o.Loaded v → v.package ≡ None) → outcome_with (kept k) one ≡ one
    same_outcome k (o.Loaded v) none = ap (λ (z : Option PackageTargets). o.Loaded (frozen_by (kept k) v z)) (none v refl)
    same_outcome k (o.Faulty e) none = refl
    same_outcome k (o.Cyclic l) none = refl
    same_outcome k (o.TooDeep l) none = refl
    same_outcome k (o.LoadFailed l) none = refl

    same_values : (m : ℕ) → load_values kept_at (row g.edges m) ≡ load_values at (row g.edges m)
    same_values m = values_same kept_at at (row g.edges m) (λ k h. same_outcome k (at k) (no_package m k h))

    module _ (m : ℕ) where
      own_with : (r : Result ModuleView FailedView) → outcome_with (kept m) (own r) ≡ own (result_with (kept m) r)
      own_with (Ok v) = refl
      own_with (Err why) = refl

      evaluated_with : (r : Result (List ModuleView) ℕ) → outcome_with (kept m) (evaluated (means x m) r) ≡ evaluated (keeping kept (means x) m) r
      evaluated_with (Ok vs) = own_with (means x m vs)
      evaluated_with (Err l) = refl

      by_cases : (cyclic deep : Bool) (c d : ℕ) (r : Result (List ModuleView) ℕ)
          → outcome_with (kept m) (cond cyclic (o.Cyclic c) (cond deep (o.TooDeep d) (evaluated (means x m) r))) ≡ cond cyclic (o.Cyclic c) (cond deep (o.TooDeep d) (evaluated (keeping kept (means x) m) r))
      by_cases true deep c d r = refl
      by_cases false true c d r = refl
      by_cases false false c d r = evaluated_with r

    solves : IsByLoads (keeping kept (means x)) g.edges kept_at
    unfolding by_loads
    solves m =
        let cyclic = is_cyclic g.edges m in
        let deep = is_too_deep g.edges m in
        let c = first (is_cyclic g.edges) (row g.edges m) in
        let d = first (starts_path g.edges max_load_depth) (row g.edges m) in
        ap (outcome_with (kept m)) (outcome_is (means x) g.edges m) ∙ by_cases m cyclic deep c d (load_values at (row g.edges m))
        ∙ ap (λ (r : Result (List ModuleView) ℕ). cond cyclic (o.Cyclic c) (cond deep (o.TooDeep d) (evaluated (keeping kept (means x) m) r))) (sym (same_values m))

    stays : (m : ℕ) → outcome (keeping kept (means x)) g.edges m ≡ kept_at m
    stays m = sym ((solved (keeping kept (means x)) g.edges).1 kept_at solves m)

pub outcomes_stay : OutcomesStay
outcomes_stay files rules limit g is kept m = stays files rules limit g is kept m

-- ---- what else there is of a module

package_by_it : (made : FrozenView) (v : ModuleView) (p : Option PackageTargets) → (frozen_by made v p).package ≡ v.package
package_by_it made v None = refl
package_by_it made v (Some q) = refl

printed_by : (made : FrozenView) (v : ModuleView) (p : Option PackageTargets) → (frozen_by made v p).prints ≡ v.prints
printed_by made v None = refl
printed_by made v (Some q) = refl

pub results_tell : ResultsTellTheSame
results_tell l made (Err why) = record { package_is = refl; lines = refl; prints = refl }
results_tell l made (Ok v) = record { package_is = package_by_it made v v.package; lines = refl; prints = printed_by made v v.package }
