-- The numbers and names of the errors of runs.
use Rattle.std.specs.Prelude.{ℕ, List, codes}
use Rattle.bq_query_lex.specs.QueryError.{query_title}
use Rattle.bq_run_write.specs.declared.ending.NoAnswer.{NoAnswer}
use Rattle.bq_run_write.specs.declared.ending.NoAnswer.TheVariants as refusal
use Rattle.bq_run_write.specs.declared.error.RunErr.{RunErr}
use Rattle.bq_run_write.specs.declared.error.RunErr.TheVariants.{Memory, Read, Write, Bundle, Query, Schema, TooManyModules}

-- the number and the name of a run's error, with a space between; those of a query's error where that is the reason
abbrev pub run_title : RunErr → List ℕ
run_title Memory = codes "E1 Memory"
run_title Read = codes "E2 Read"
run_title Write = codes "E3 Write"
run_title Bundle = codes "E4 Bundle"
run_title (Query error) = query_title error
run_title (Schema line) = codes "E6 Schema"
run_title TooManyModules = codes "E7 TooManyModules"

-- the error of a run that is refused so
abbrev pub run_err : NoAnswer → RunErr
run_err (refusal.Query error) = Query error
run_err (refusal.Schema line) = Schema line
run_err refusal.TooManyModules = TooManyModules
