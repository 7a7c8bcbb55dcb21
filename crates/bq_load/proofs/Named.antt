-- The outcomes of the modules of a load graph have its labels, in their order.
use Rattle.std.proofs.Common.{◌≡◌, ◌∙◌, ◌+◌, ℕ, List, [], ◌∷◌, map, refl, sym, ap}
use Rattle.bq_label.specs.declared.workspace.File.{File}
use Rattle.bq_label.specs.Label.{LabelParts}
use Rattle.bq_package_schema.specs.Schema.{Rules}
use Rattle.bq_board.specs.Graph.{Loads}
use Rattle.bq_load_front.specs.Inputs.{InputParts}
use Rattle.bq_load_discover.specs.declared.modules.Module.{Module}
use Rattle.bq_load_discover.specs.LoadGraph.{GraphParts, IsReadGraph, inputs_of}
use Rattle.bq_load_discover.specs.Module.{module_of}
use Rattle.bq_load.specs.Loading.{LoadingParts, loading_in}
use Rattle.bq_load.specs.Packages.{labels_of}
use Rattle.bq_load.specs.Results.{outcomes_from, outcomes}
use Rattle.bq_load.specs.Views.{OutcomeView}

labels_read : (inputs : InputParts) (ls : List LabelParts) → map (λ (s : Module). s.label) (map (module_of inputs) ls) ≡ ls
labels_read inputs [] = refl
labels_read inputs (l ∷ ls) = ap (λ (z : List LabelParts). l ∷ z) (labels_read inputs ls)

module _ (x : LoadingParts) (p : Loads) where
  labels_from : (m : ℕ) (ss : List Module) → labels_of (outcomes_from x p m ss) ≡ map (λ (s : Module). s.label) ss
  labels_from m [] = refl
  labels_from m (s ∷ ss) = ap (λ (z : List LabelParts). s.label ∷ z) (labels_from (m + 1) ss)

  labels_are : labels_of (outcomes x p) ≡ map (λ (s : Module). s.label) x.modules
  unfolding outcomes
  labels_are = labels_from 0 x.modules

pub labelled : (files : List File) (rules : Rules) (limit : ℕ) (g : GraphParts) → IsReadGraph (inputs_of files rules) g → (os : List OutcomeView) → os ≡ outcomes (loading_in files rules limit g) g.edges → (ls : List LabelParts)
    → ls ≡ g.labels → ls ≡ labels_of os
labelled files rules limit g is os e ls l =
    let names : List Module → List LabelParts = map (λ (s : Module). s.label) in
    let its : labels_of os ≡ g.labels = ap labels_of e ∙ (labels_are (loading_in files rules limit g) g.edges ∙ (ap names is.read ∙ labels_read (inputs_of files rules) g.labels)) in
    l ∙ sym its
