use Rattle.std.proofs.Common.{◌≤◌, length, ap, arith}
use Rattle.std.proofs.lemmas.Grind.{common_steps}
use Rattle.bq_query_graph.specs.Rows.{rows}
use Rattle.bq_query_graph.proofs.Flats.{length_rows}
use Rattle.bq_query_graph.proofs.Lists.{length_places}
use Rattle.bq_query_graph.proofs.row_list.RowList.len.Goals as goal

pub returns : goal.returns
returns c = omega (arith, length_rows c.self.inside.starts.items c.self.inside.heads.items, ap length c.self.view_is)

pub overflow_sub-result : goal.overflow_sub-result
overflow_sub-result c =
    let starts = c.self.inside.starts.items in
    let long = length_places 0 (rows starts c.self.inside.heads.items) in
    let some : 1 ≤ length starts = omega (arith, long, ap length c.self.invariant.starts) in
    grind (arith, common_steps, some)
