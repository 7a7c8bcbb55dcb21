-- A file with a fault loads nothing.
use Rattle.std.proofs.Common.{◌≡◌, ◌∙◌, ap, refl, sym, ℕ, zero, suc, List, [], ◌∷◌, map, slice_get, Some, Err}
use Rattle.bq_base.specs.declared.fault.FaultKind.{FaultKind}
use Rattle.bq_base.specs.declared.fault.Fault.{Fault}
use Rattle.bq_label.specs.Label.{LabelParts}
use Rattle.bq_label_set.specs.Labels.{with_labels}
use Rattle.bq_load_front.specs.Front.{front_of, loads_by}
use Rattle.bq_load_front.specs.Reading.{parsed_of, loads_of}
use Rattle.bq_load_front.specs.Inputs.{InputParts}
use Rattle.bq_load_front.proofs.ByName.{loads_agree}
use Rattle.bq_load_discover.specs.LoadGraph.{GraphParts, IsReadGraph}
use Rattle.bq_load_discover.specs.Modules.{edges_from}

no_loads : (inputs : InputParts) (l : LabelParts) (why : Fault FaultKind) → front_of inputs l ≡ Err why → loads_of inputs l ≡ []
no_loads inputs l why h = sym (loads_agree inputs l) ∙ ap loads_by h

pub record At {A : Type 0} (xs : List A) (n : ℕ) (Q : A → Type 0) : Type 0 where
  pub element : A
  pub there : slice_get xs n ≡ Some element
  pub holds : Q element

-- what two lists are mapped to is one: an element of the one comes from an element of the other
pub both : {A B C : Type 0} (f : A → C) (g : B → C) (xs : List A) (ys : List B) (n : ℕ) (y : B) → map f xs ≡ map g ys → slice_get ys n ≡ Some y → At xs n (λ x. f x ≡ g y)
both f g [] [] n y e at = absurd (cc)
both f g [] (z ∷ zs) n y e at = absurd (cc)
both f g (x ∷ xs) [] n y e at = absurd (cc)
both f g (x ∷ xs) (z ∷ zs) zero y e at = record { element = x; there = refl; holds = first_is }
  where
    first_is : f x ≡ g y
    first_is = let is : z ≡ y = cc in let heads : f x ≡ g z = cc in heads ∙ ap g is
both f g (x ∷ xs) (z ∷ zs) (suc n) y e at =
    let tails : map f xs ≡ map g zs = cc in
    let r = both f g xs zs n y tails at in
    record { element = r.element; there = r.there; holds = r.holds }

no_edge : (labels : List LabelParts) (row : List ℕ) → map (slice_get labels) row ≡ [] → row ≡ []
no_edge labels [] e = refl
no_edge labels (n ∷ row) e = absurd (cc)

pub loads_nothing : (inputs : InputParts) (g : GraphParts) (m : ℕ) (l : LabelParts) (why : Fault FaultKind) → IsReadGraph inputs g → slice_get g.labels m ≡ Some l → front_of inputs l ≡ Err why → slice_get g.edges m ≡ Some []
unfolding with_labels
loads_nothing inputs g m l why graph at bad =
    let r = both (map (slice_get g.labels)) (λ k. map Some (edges_from (parsed_of inputs) k)) g.edges g.labels m l graph.graph.edges at in
    let none : map Some (edges_from (parsed_of inputs) l) ≡ [] = ap (λ ls. map Some (with_labels [] ls)) (no_loads inputs l why bad) in
    r.there ∙ ap Some (no_edge g.labels r.element (r.holds ∙ none))
