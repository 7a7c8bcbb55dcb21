-- How a run over a workspace ends.
use Rattle.std.specs.Prelude.{Bool, true, false, List, [], ◌∷◌}
use Rattle.bq_base_texts.specs.declared.fault_line.FaultLine.{FaultLine}
use Rattle.bq_query_lex.specs.declared.query_error.QueryErr.{QueryErr}
use Rattle.bq_query_lex.specs.declared.query_error.QueryErr.TheVariants as e
use Rattle.bq_run_write.specs.declared.ending.NoAnswer.{NoAnswer}
use Rattle.bq_run_write.specs.declared.ending.NoAnswer.TheVariants.{Query}
use Rattle.bq_run_write.specs.declared.ending.Status.{Status}
use Rattle.bq_run_write.specs.declared.ending.Status.TheVariants.{Answered, WithFaults}

-- a word names a target or a package that is not there: Q5 or Q6
abbrev pub names_nothing : QueryErr → Bool
names_nothing (e.NoSuchTarget label) = true
names_nothing (e.NoSuchPackage pattern) = true
names_nothing _ = false

-- the query is valid and names what is not there
abbrev pub is_unanswered : NoAnswer → Bool
is_unanswered (Query error) = names_nothing error
is_unanswered _ = false

-- with these fault lines
abbrev pub status_by : List FaultLine → Status
status_by [] = Answered
status_by (l ∷ ls) = WithFaults

-- the query was refused for lack of memory
abbrev pub is_memory : QueryErr → Bool
is_memory e.Memory = true
is_memory e.Syntax = false
is_memory (e.UnknownFunction name) = false
is_memory (e.LeftOut word) = false
is_memory e.BadRegex = false
is_memory (e.NoSuchTarget label) = false
is_memory (e.NoSuchPackage text) = false
is_memory (e.UnboundVariable name) = false
is_memory e.Arguments = false
