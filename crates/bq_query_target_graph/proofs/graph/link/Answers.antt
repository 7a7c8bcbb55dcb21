use Rattle.std.proofs.Common.{◌≡◌, ◌∙◌, Result, IfOk, subst}
use Rattle.std.specs.declared.alloc.AllocError.{AllocError}
use Rattle.bq_query_target_graph.specs.declared.edges.Found.{Found}
use Rattle.bq_query_target_graph.specs.Order.{target_labels}
use Rattle.bq_query_target_graph.specs.Edges.{rows_of}
use Rattle.bq_query_target_graph.proofs.RowEdges.{rows_pairs, rows_below}
use Rattle.bq_query_target_graph.proofs.graph.link.Goals as goal

pub of_rows-requires : goal.of_rows-requires
of_rows-requires c =
    let ts = c.args.targets.now in
    let rows = subst (λ (z : Result Found AllocError). IfOk z (λ f. f.rows ≡ rows_of (target_labels ts) ts)) c.in_ok-found.was c.requires.rows in
    rows_below ts c.in_ok-found.found.rows rows c.requires.ascending

pub returns-clause-graph : goal.returns-clause-graph
returns-clause-graph c =
    let ts = c.args.targets.now in
    let rows = subst (λ (z : Result Found AllocError). IfOk z (λ f. f.rows ≡ rows_of (target_labels ts) ts)) c.in_ok-found.was c.requires.rows in
    rows_pairs ts c.in_ok-of_rows.field-0 (c.in_ok-of_rows.ensures ∙ rows)
