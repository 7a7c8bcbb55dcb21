use Rattle.bq_builtin.specs.Sequences.{rows}
use Rattle.bq_builtin.proofs.Columns.{row_done}
use Rattle.bq_builtin.proofs.zip.rows.Goals as goal

pub loop-row-preserved : goal.loop-row-preserved
loop-row-preserved c =
    row_done c.args.count c.loop-row._row c.loop-row.tuples.items c.push.new.self.items c.loop-row.columns c.tuple_of_row.new.columns c.in_ok-tuple_of_row.field-0 (rows c.args.count c.args.columns.now) c.loop-row-test.true c.in_ok-push.ensures.items
    c.in_ok-tuple_of_row.ensures.tuple c.in_ok-tuple_of_row.ensures.rest c.loop-row.invariant
