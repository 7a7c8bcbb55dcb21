-- The graph of the targets of a workspace.
use Rattle.std.specs.Prelude.{◌≡◌, ℕ, List, length}
use Rattle.std.specs.List.Sorted.{IsStrictlySortedBy}
use Rattle.bq_label.specs.Label.{PackageParts}
use Rattle.bq_label.specs.Packages.{id_cmp}
use Rattle.bq_package_target.specs.declared.target.Target.{Target}
use Rattle.bq_query_target_graph.specs.Order.{target_cmp}

-- the targets, the packages, and for each target the numbers of those that it depends on
pub record GraphParts : Type 0 where
  pub targets : List Target
  pub packages : List PackageParts
  pub edges : List (List ℕ)

-- targets and packages are in order, none of them twice, and each target has its dependencies
pub record IsGraph (g : GraphParts) : Type 0 where
  pub ascending : IsStrictlySortedBy target_cmp g.targets
  pub packages_ascend : IsStrictlySortedBy id_cmp g.packages
  pub long : length g.edges ≡ length g.targets
