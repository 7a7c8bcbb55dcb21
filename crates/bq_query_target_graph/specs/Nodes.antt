-- The targets of packages before they are linked.
use Rattle.std.specs.Prelude.{◌≡◌, List}
use Rattle.std.specs.List.{All}
use Rattle.std.specs.List.Sorted.{IsStrictlySortedBy}
use Rattle.bq_package_target.specs.Package.{PackageTargets, AreTargetsOf}
use Rattle.bq_package_target.specs.PackageOrder.{id_of, PackagesAscend}
use Rattle.bq_query_target_graph.specs.declared.graph.Nodes.{Nodes}
use Rattle.bq_query_target_graph.specs.Order.{target_cmp, targets_of}
use Rattle.bq_query_target_graph.specs.BuildFiles.{build_files}

-- the targets of packages in order, and the BUILD files of these packages
pub record AreNodesOf (ps : List PackageTargets) (n : Nodes) : Type 0 where
  pub packages : PackagesAscend ps
  pub own : All (λ p. AreTargetsOf (id_of p) p.targets) ps
  pub targets : n.targets.items ≡ targets_of ps
  pub ascending : IsStrictlySortedBy target_cmp n.targets.items
  pub files : n.files ≡ build_files ps
