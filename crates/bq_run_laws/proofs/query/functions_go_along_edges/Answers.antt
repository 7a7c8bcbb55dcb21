use Rattle.bq_run_laws.proofs.Queries.Edges.{by_edges}
use Rattle.bq_run_laws.proofs.query.functions_go_along_edges.Goals as goal

pub returns : goal.returns
returns c = by_edges
