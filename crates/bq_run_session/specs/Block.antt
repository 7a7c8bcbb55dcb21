-- What is written for a query: a header line, and as many lines as it says.
use Rattle.std.specs.Prelude.{ℕ, ◌+◌, ◌++◌, ◌==◌, List, [], ◌∷◌, Bool, true, false, Result, Ok, Err, codes, decimal, take, if◌then◌else◌}
use Rattle.bq_run_report.specs.Report.{ReplyView}
use Rattle.bq_run_write.specs.declared.ending.NoAnswer.{NoAnswer}
use Rattle.bq_run_write.specs.declared.ending.Status.{Status}
use Rattle.bq_run_write.specs.Error.{run_err}
use Rattle.bq_run_write.specs.Status.{status_code, status_line}
use Rattle.bq_run_write.specs.declared.error.RunErr.{RunErr}
use Rattle.bq_run_commands.specs.Queries.{max_query_bytes}

-- how many newlines there are
unfoldable pub line_count : List ℕ → ℕ
line_count [] = 0
line_count (b ∷ bs) = if b == 10 then line_count bs + 1 else line_count bs

-- `=== STATUS LINES QUERY`; a query that is too long is cut
abbrev pub header : ℕ → ℕ → List ℕ → List ℕ
header status count query = codes "=== " ++ (decimal status ++ (codes " " ++ (decimal count ++ (codes " " ++ (take max_query_bytes query ++ 10 ∷ [])))))

-- how a run with the query alone ends
abbrev pub run_end : Result Status NoAnswer → Result Status RunErr
run_end (Ok status) = Ok status
run_end (Err why) = Err (run_err why)

-- the lines of a text, or the error line
abbrev pub body : List ℕ → Result Status RunErr → List ℕ
body text end = text ++ status_line end

-- a block: what is written for a line
abbrev pub run_block : List ℕ → List ℕ → Result Status RunErr → List ℕ
run_block line text end = header (status_code end) (line_count (body text end)) line ++ body text end

-- what is written for a query
abbrev pub block : List ℕ → ReplyView → List ℕ
block query reply = run_block query reply.text (run_end reply.end)

-- the run ends with an error rather than a status
abbrev pub is_refused : Result Status RunErr → Bool
is_refused (Ok status) = false
is_refused (Err why) = true
