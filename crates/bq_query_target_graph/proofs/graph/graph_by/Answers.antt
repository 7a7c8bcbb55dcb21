use Rattle.std.proofs.Common.{◌∙◌, List, length, ap, subst}
use Rattle.bq_base_texts.specs.FaultLine.{sorted_lines}
use Rattle.bq_query_graph.specs.Edges.{HasPairsOf}
use Rattle.bq_package_target.specs.declared.target.Target.{Target}
use Rattle.bq_query_target_graph.specs.Order.{target_labels}
use Rattle.bq_query_target_graph.specs.Edges.{edges_from}
use Rattle.bq_query_target_graph.specs.Dangling.{dangling_from}
use Rattle.bq_query_target_graph.proofs.Whole.{linked_is, linked_lines}
use Rattle.bq_query_target_graph.proofs.graph.graph_by.Goals as goal

pub returns-clause-graph : goal.returns-clause-graph
returns-clause-graph c =
    let l = c.in-Ok.linked in
    let r = c.in-Ok.ensures in
    let pairs = subst (λ (z : List Target). HasPairsOf (length z) (edges_from (target_labels z) 0 z) l.graph) c.deref.ensures.value r.graph in
    λ ps a. linked_is ps c.args.nodes a l.packages r.packages l.graph pairs

pub returns-clause-lines : goal.returns-clause-lines
returns-clause-lines c =
    let l = c.in-Ok.linked in
    let r = c.in-Ok.ensures in
    let lines = r.dangling ∙ ap (λ (z : List Target). sorted_lines (dangling_from (target_labels z) c.args.nodes.files z)) c.deref.ensures.value in
    λ ps a. linked_lines ps c.args.nodes a l.dangling lines
