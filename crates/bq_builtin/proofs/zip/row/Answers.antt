use Rattle.std.proofs.Common.{◌∙◌, ◌<◌, ◌++◌, sym, ap, take, drop, set, List, length, arith}
use Rattle.bq_value.specs.Datum.{Datum}
use Rattle.bq_builtin.proofs.Columns.{column_moves, head_moves}
use Rattle.bq_builtin.proofs.zip.row.Goals as goal

pub loop-column-preserved : goal.loop-column-preserved
loop-column-preserved c =
    let below : c.loop-column.column-index < length c.args.columns.now = omega (arith, c.loop-column-test.true, c.loop-column.auto.columns) in
    let same = sym c.column-item.is in
    record {
      row =
          head_moves c.args.columns.now c.loop-column.columns c.loop-column.values.items c.move_next.new.row.items c.loop-column.column-index c.column-item.result below c.loop-column.invariant.rest c.column-item.is
          (c.in_ok-move_next.ensures.row ∙ ap (λ (xs : List Datum). c.loop-column.values.items ++ take 1 xs) same) c.loop-column.invariant.row;
      rest =
          ap (λ (xs : List Datum). set c.loop-column.columns c.loop-column.column-index xs) c.in_ok-move_next.ensures.rest
          ∙ (ap (λ (xs : List Datum). set c.loop-column.columns c.loop-column.column-index (drop 1 xs)) same
          ∙ column_moves c.args.columns.now c.loop-column.columns c.loop-column.column-index c.column-item.result below c.loop-column.invariant.rest c.column-item.is);
    }
