-- What the fields of a column stand for.
use Rattle.std.specs.Prelude.{List, drop}
use Rattle.bq_value.specs.Datum.{Datum}
use Rattle.bq_value.specs.Pairs.{keys}
use Rattle.bq_builtin.specs.declared.column.ColumnSource.{ColumnSource}
use Rattle.bq_builtin.specs.declared.column.ColumnSource.TheVariants as left

-- the values that are still to come: of values or of a dict's keys those from the place `at` on, counted from 0
abbrev pub column_left : ColumnSource → List Datum
column_left (left.Values values at) = drop at values.now
column_left (left.Keys dict at) = drop at (keys dict.now)
column_left (left.Integers integers) = integers
