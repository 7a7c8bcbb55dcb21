-- What a pool of a load graph's modules gives to the threads that work in it.
use Rattle.std.specs.Prelude.{◌≡◌, ℕ, List, ◌++◌, map, All, Option, Some, None, slice_get}
use Rattle.bq_parse_grammar.specs.declared.tree.FileKind.{FileKind}
use Rattle.bq_parse_grammar.specs.declared.tree.FileKind.TheVariants as kinds
use Rattle.bq_load_front.specs.Parsed.{kind_of}
use Rattle.bq_package_target.specs.Package.{PackageTargets}
use Rattle.bq_board.specs.Graph.{Loads}
use Rattle.bq_load.specs.declared.pool.Evaluated.{Evaluated}
use Rattle.bq_load.specs.declared.pool.Pool.{Pool}
use Rattle.bq_load.specs.Views.{OutcomeView, outcome_view}
use Rattle.bq_load.specs.Loading.{LoadingParts, loading_of}
use Rattle.bq_load.specs.Results.{outcomes}
use Rattle.bq_load.specs.Loaded.{package_by}

-- what decides the outcomes of a pool's modules
abbrev pub parts_of : Pool → LoadingParts
parts_of pool = loading_of pool.shared.evaluator

-- which of them loads which
abbrev pub loads_of : Pool → Loads
loads_of pool = pool.shared.graph

-- the package of a module whose file is of this kind: None for a .bzl file
abbrev pub package_by_kind : FileKind → OutcomeView → Option PackageTargets
package_by_kind kinds.Bzl o = None
package_by_kind kinds.Build o = package_by o.label o.result

-- the package of a BUILD file, without targets where it failed; a .bzl file has none
abbrev pub package_of_file : OutcomeView → Option PackageTargets
package_of_file o = package_by_kind (kind_of o.label) o

module _ (x : LoadingParts) (p : Loads) where
  -- a module by its number, with its outcome by the recursion along loads, and with its package
  pub record IsEvaluated (e : Evaluated) : Type 0 where
    pub outcome : slice_get (outcomes x p) e.module ≡ Some (outcome_view e.outcome)
    pub «package» : e.package ≡ package_of_file (outcome_view e.outcome)

  -- just these modules were finished since, in this order
  pub record HaveFinished (before after : List ℕ) (es : List Evaluated) : Type 0 where
    pub joined : after ≡ before ++ map (λ e. e.module) es
    pub right : All IsEvaluated es
