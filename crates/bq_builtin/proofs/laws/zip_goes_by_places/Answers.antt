use Rattle.bq_builtin.proofs.Answered.{rows_counted, none_shorter, row_at}
use Rattle.bq_builtin.proofs.laws.zip_goes_by_places.Goals as goal

pub returns : goal.returns
returns c = record { count = rows_counted; shortest = none_shorter; tuples = row_at }
