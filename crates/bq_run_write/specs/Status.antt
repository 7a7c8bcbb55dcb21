-- The exit status of a run, and the line that names its error.
use Rattle.std.specs.Prelude.{◌++◌, ℕ, List, [], ◌∷◌, Result, Ok, Err, codes, decimal}
use Rattle.bq_base_texts.specs.LineText.{detail_text}
use Rattle.bq_query_lex.specs.QueryError.{query_detail}
use Rattle.bq_run_write.specs.declared.ending.Status.{Status}
use Rattle.bq_run_write.specs.declared.ending.Status.TheVariants.{Answered, WithFaults}
use Rattle.bq_run_write.specs.Error.{run_title}
use Rattle.bq_run_write.specs.declared.error.RunErr.{RunErr}
use Rattle.bq_run_write.specs.declared.error.RunErr.TheVariants.{Memory, Read, Write, Bundle, Query, Schema, TooManyModules}

-- the exit status: 0 answered, 3 with fault lines, 2 refused, 4 out of memory, 5 where reading or writing fails
abbrev pub status_code : Result Status RunErr → ℕ
status_code (Ok Answered) = 0
status_code (Ok WithFaults) = 3
status_code (Err Memory) = 4
status_code (Err Read) = 5
status_code (Err Write) = 5
status_code (Err Bundle) = 2
status_code (Err (Query error)) = 2
status_code (Err (Schema line)) = 2
status_code (Err TooManyModules) = 2

-- what is printed after an error's name; empty for most
abbrev pub error_detail : RunErr → List ℕ
error_detail Memory = []
error_detail Read = []
error_detail Write = []
error_detail Bundle = []
error_detail (Query error) = query_detail error
error_detail (Schema line) = decimal line
error_detail TooManyModules = []

-- `bq: ` and the error's number, name and detail
abbrev pub error_line : RunErr → List ℕ
error_line error = codes "bq: " ++ run_title error ++ detail_text (error_detail error) ++ 10 ∷ []

-- the line for standard error, empty where there is none
abbrev pub status_line : Result Status RunErr → List ℕ
status_line (Ok s) = []
status_line (Err error) = error_line error
