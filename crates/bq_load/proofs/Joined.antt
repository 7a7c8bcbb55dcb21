-- What is read of a workspace is what its load graph decides, and what that gives is what loading the workspace gives.
use Rattle.std.proofs.Common.{◌≡◌, ◌∙◌, ℕ, List, length, Ok, sym, ap, subst}
use Rattle.std.proofs.lemmas.List.{length-map}
use Rattle.bq_label.specs.declared.workspace.File.{File}
use Rattle.bq_label.specs.declared.packages.BuildFile.{BuildFile}
use Rattle.bq_label.specs.Packages.{packages_of}
use Rattle.bq_label.specs.Workspace.{paths_of}
use Rattle.bq_resolve_scope.specs.Names.{Name}
use Rattle.bq_package_schema.specs.Schema.{Rules}
use Rattle.bq_base.specs.declared.limits.Limits.{Limits}
use Rattle.bq_board.specs.Graph.{Loads, Fits}
use Rattle.bq_load_discover.specs.declared.modules.Module.{Module}
use Rattle.bq_load_discover.specs.LoadGraph.{GraphParts, IsNumbered, IsReadGraph, inputs_of}
use Rattle.bq_load.specs.declared.loaded.Loaded.{Loaded}
use Rattle.bq_load.specs.Loading.{LoadingParts, loading_in}
use Rattle.bq_load.specs.Views.{OutcomeView}
use Rattle.bq_load.specs.Results.{outcomes}
use Rattle.bq_load.specs.Loaded.{IsLoaded, IsGathered, LoadsWithin}

abbrev parts : List Module → List (List ℕ) → List BuildFile → Rules → List Name → ℕ → LoadingParts
parts modules paths packages rules names limit = record { modules = modules; paths = paths; packages = packages; rules = rules; names = names; limit = limit }

pub as_wide : (g : GraphParts) → IsNumbered g → (modules : List Module) → modules ≡ g.modules → length g.edges ≡ length modules
as_wide g n modules a = n.long ∙ (sym (ap length n.named) ∙ (length-map g.modules (λ (m : Module). m.label) ∙ sym (ap length a)))

-- the outcomes of what is the same
pub outcomes_of_same : (x y : LoadingParts) (p q : Loads) (os : List OutcomeView) → x ≡ y → p ≡ q → os ≡ outcomes x p → os ≡ outcomes y q
outcomes_of_same x y p q os a b o = o ∙ (λ i. outcomes (a i) (b i))

module _ (files : List File) (rules : Rules) (limit : ℕ) (g : GraphParts) (is : IsReadGraph (inputs_of files rules) g) where
  pub decided : (modules : List Module) (packages : List BuildFile) (names : List Name) → modules ≡ g.modules → packages ≡ g.packages → names ≡ rules.names
      → parts modules (paths_of files) packages rules names limit ≡ loading_in files rules limit g
  decided modules packages names a b c = let known : packages ≡ packages_of files = b ∙ is.packages in λ i. parts (a i) (paths_of files) (known i) rules (c i) limit

  -- what modules give with the packages of the load graph
  pub gathered_is : (bs : List BuildFile) (os : List OutcomeView) (l : Loaded) → bs ≡ g.packages → os ≡ outcomes (loading_in files rules limit g) g.edges → IsGathered bs os l → IsLoaded (loading_in files rules limit g) g.edges l
  gathered_is bs os l b o h =
      subst (λ (cs : List BuildFile). IsGathered cs (outcomes (loading_in files rules limit g) g.edges) l) (b ∙ is.packages) (subst (λ (vs : List OutcomeView). IsGathered bs vs l) o h)

-- by these limits
module _ (files : List File) (rules : Rules) (limits : Limits) (g : GraphParts) (is : IsReadGraph (inputs_of files rules) g) (fits : Fits limits g.edges) where
  pub loaded_is : (l : Loaded) → IsLoaded (loading_in files rules limits.steps g) g.edges l → LoadsWithin files rules limits (Ok l)
  loaded_is l h = (g, is, h, fits)
