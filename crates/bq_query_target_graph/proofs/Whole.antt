-- The graph of packages is made of their targets in order, and of the edges between them.
use Rattle.std.proofs.Common.{◌≡◌, ℕ, List, length, map, ap, sym, subst, ◌∙◌}
use Rattle.std.specs.List.Sorted.{IsPermutation, IsStrictlySortedBy}
use Rattle.bq_label.specs.Label.{LabelParts, PackageParts, package_of}
use Rattle.bq_label.specs.Packages.{id_cmp}
use Rattle.bq_label.proofs.Orders.{in_order_moves}
use Rattle.bq_base_texts.specs.declared.fault_line.FaultLine.{FaultLine}
use Rattle.bq_base_texts.specs.FaultLine.{sorted_lines}
use Rattle.bq_query_graph.specs.Edges.{HasPairsOf}
use Rattle.bq_package_target.specs.declared.target.Target.{Target}
use Rattle.bq_package_target.specs.Package.{PackageTargets}
use Rattle.bq_package_target.specs.PackageOrder.{id_of}
use Rattle.bq_query_target_graph.specs.declared.graph.Nodes.{Nodes}
use Rattle.bq_query_target_graph.specs.Nodes.{AreNodesOf}
use Rattle.bq_query_target_graph.specs.Order.{target_cmp, target_cmp_total, all_targets, targets_of, target_labels}
use Rattle.bq_query_target_graph.specs.Graph.{IsGraph}
use Rattle.bq_query_target_graph.specs.Dangling.{dangling_from, dangling_lines}
use Rattle.bq_query_target_graph.specs.Edges.{IsGraphOf, edges_from}
use Rattle.bq_query_target_graph.proofs.Ascends.{distinct_from_order}
use Rattle.bq_query_target_graph.proofs.Danglings.{found_lines}
use Rattle.bq_query_target_graph.proofs.Depends.{edges_are}
use Rattle.bq_query_target_graph.proofs.Files.{ids_are}

-- the graph of these parts
module _ (ts : List Target) (s : IsStrictlySortedBy target_cmp ts) (g : List (List ℕ)) (h : HasPairsOf (length ts) (edges_from (target_labels ts) 0 ts) g) where
  pub linked_graph : (ids : List PackageParts) → IsStrictlySortedBy id_cmp ids → IsGraph (record { targets = ts; packages = ids; edges = g })
  linked_graph ids o = record {
    ascending = s;
    packages_ascend = o;
    long = h.long;
  }

  whole_is : (ps : List PackageTargets) (ids : List PackageParts) → ts ≡ targets_of ps → ids ≡ map id_of ps → IsGraphOf ps (record { targets = ts; packages = ids; edges = g })
  whole_is ps ids e k = record {
    targets = e;
    packages = k;
    pairs = λ a b.
        let edges = edges_are ts (distinct_from_order ts s) a b in
        let pairs = h.pairs a b in
        (λ p. edges.0 (pairs.0 p), λ d. pairs.1 (edges.1 d));
  }

-- the graph of packages with these targets and BUILD files
module _ (ps : List PackageTargets) (r : Nodes) (a : AreNodesOf ps r) where
  pub linked_is : (ids : List PackageParts) → ids ≡ map package_of r.files → (g : List (List ℕ)) → HasPairsOf (length r.targets.items) (edges_from (target_labels r.targets.items) 0 r.targets.items) g
      → IsGraphOf ps (record { targets = r.targets.items; packages = ids; edges = g })
  linked_is ids k g h = whole_is r.targets.items a.ascending g h ps ids a.targets (k ∙ (ap (map package_of) a.files ∙ ids_are ps))

  moved : IsPermutation (all_targets ps) r.targets.items
  moved = subst (λ (z : List Target). IsPermutation (all_targets ps) z) (sym a.targets) (in_order_moves target_cmp target_cmp_total (all_targets ps))

  pub linked_lines : (lines : List FaultLine) → lines ≡ sorted_lines (dangling_from (target_labels r.targets.items) r.files r.targets.items) → lines ≡ dangling_lines ps
  linked_lines lines l = l ∙ (ap (λ (z : List LabelParts). sorted_lines (dangling_from (target_labels r.targets.items) z r.targets.items)) a.files ∙ found_lines ps a.packages a.own r.targets.items moved)
