-- The packages of a workspace have no targets but those that their own BUILD files declare.
use Rattle.std.proofs.Common.{◌≡◌, ◌⊎◌, ℕ, Bool, true, false, cond, List, [], ◌∷◌, Option, Some, None, Result, Ok, Err, Contains, IfOk, inl, inr, refl, sym, subst}
use Rattle.std.specs.Prelude.{option_and_then}
use Rattle.std.specs.List.{AllByRecursion, find}
use Rattle.std.proofs.lemmas.Option.{none-some, same_Some}
use Rattle.bq_label.specs.declared.packages.BuildFile.{BuildFile}
use Rattle.bq_label.specs.declared.workspace.File.{File}
use Rattle.bq_label.specs.Label.{LabelParts}
use Rattle.bq_label.specs.Packages.{build_label}
use Rattle.bq_label.specs.Workspace.{IsWorkspace}
use Rattle.bq_label_set.specs.Labels.{same_label}
use Rattle.bq_package_schema.specs.Schema.{Rules}
use Rattle.bq_package_target.specs.Package.{PackageTargets, no_targets}
use Rattle.bq_load_front.specs.Inputs.{InputParts}
use Rattle.bq_load_discover.specs.LoadGraph.{GraphParts, IsReadGraph, inputs_of}
use Rattle.bq_load_discover.proofs.Lists.{in_filter_map}
use Rattle.bq_load.specs.Loaded.{package_by, package_in, packages_in}
use Rattle.bq_load.specs.Results.{outcomes}
use Rattle.bq_load.specs.Loading.{loading_in}
use Rattle.bq_load.specs.Views.{ModuleView, FailedView, OutcomeView}
use Rattle.bq_load_laws.specs.Packages.Declared.{DeclaresIn, DeclaresAllIn, DeclaresItsTargets, PackagesDeclareTheirTargets}
use Rattle.bq_load_laws.proofs.Faults.Outcomes.{outcomes_declare}

module _ (inputs : InputParts) where
  abbrev HasItsTargets : PackageTargets → Type 0
  HasItsTargets p = (p.targets ≡ []) ⊎ DeclaresIn inputs p.build_file p

  by_result : (own l : LabelParts) (r : Result ModuleView FailedView) (p : PackageTargets) → IfOk r (λ v. DeclaresAllIn inputs own v.package) → package_by l r ≡ Some p → HasItsTargets p
  by_result own l (Ok v) p h e =
      let its : DeclaresAllIn inputs own (Some p) = subst (DeclaresAllIn inputs own) e h in
      inr (subst (λ (z : LabelParts). DeclaresIn inputs z p) (sym its.0) its.1)
  by_result own l (Err v) p h e = subst HasItsTargets (same_Some (no_targets l) p e) (inl refl)

  module _ (l : LabelParts) where
    abbrev at : OutcomeView → Bool
    at o = same_label l o.label

    abbrev by : OutcomeView → Option PackageTargets
    by o = package_by l o.result

    by_test : (o : OutcomeView) (found : Option OutcomeView) (p : PackageTargets) (b : Bool) → DeclaresItsTargets inputs o → (option_and_then by found ≡ Some p → HasItsTargets p)
        → option_and_then by (cond b (Some o) found) ≡ Some p → HasItsTargets p
    by_test o found p true h rest e = by_result o.label l o.result p h e
    by_test o found p false h rest e = rest e

    by_module : (os : List OutcomeView) (p : PackageTargets) → AllByRecursion (DeclaresItsTargets inputs) os → option_and_then by (find at os) ≡ Some p → HasItsTargets p
    by_module [] p all e = absurd (none-some p e)
    by_module (o ∷ os) p all e = by_test o (find at os) p (at o) all.0 (by_module os p all.1) e

  module _ (os : List OutcomeView) (all : AllByRecursion (DeclaresItsTargets inputs) os) where
    by_label : (l : Option LabelParts) (p : PackageTargets) → option_and_then (λ k. option_and_then (λ o. package_by k o.result) (find (λ o. same_label k o.label) os)) l ≡ Some p → HasItsTargets p
    by_label None p e = absurd (none-some p e)
    by_label (Some l) p e = by_module l os p all e

    each_has : (bs : List BuildFile) (p : PackageTargets) → Contains (packages_in bs os) p → HasItsTargets p
    each_has bs p c = let g = in_filter_map (package_in os) bs p c in by_label (build_label g.by) p g.gives

pub declared_in_graph : (files : List File) (rules : Rules) (limit : ℕ) (g : GraphParts) → IsWorkspace files → IsReadGraph (inputs_of files rules) g → (p : PackageTargets)
    → Contains (packages_in (loading_in files rules limit g).packages (outcomes (loading_in files rules limit g) g.edges)) p
    → (p.targets ≡ []) ⊎ DeclaresIn (inputs_of files rules) p.build_file p
declared_in_graph files rules limit g w is p c =
    let x = loading_in files rules limit g in each_has (inputs_of files rules) (outcomes x g.edges) (outcomes_declare files rules limit g w is) x.packages p c

pub packages_declare : PackagesDeclareTheirTargets
packages_declare files rules limits l w h p c = declared_in_graph files rules limits.steps h.0 w h.1 p (subst (λ (z : List PackageTargets). Contains z p) h.2.packages c)
