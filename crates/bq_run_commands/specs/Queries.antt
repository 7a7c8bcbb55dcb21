-- A text of queries: a query a line.
use Rattle.std.specs.Prelude.{ℕ, ◌-◌, ◌^◌, ◌==◌, Bool, true, List, [], ◌∷◌, take, if◌then◌else◌}
use Rattle.bq_run.specs.Bundle.{lines}

-- the text without its last byte, if that is `b`
abbrev pub without_last : ℕ → List ℕ → List ℕ
without_last b [] = []
without_last b (x ∷ []) = if x == b then [] else x ∷ []
without_last b (x ∷ y ∷ ys) = x ∷ without_last b (y ∷ ys)

-- the most bytes that a query has
abbrev pub max_query_bytes : ℕ
max_query_bytes = 1048576

-- how much of a line counts: more than the longest query and the CR after it
abbrev pub max_line_bytes : ℕ
max_line_bytes = 1048578

-- a line without its newline, as far as it counts
unfoldable pub line_of : List ℕ → List ℕ
line_of line = take max_line_bytes (without_last 10 line)

-- the line ends with LF or CRLF
abbrev pub query_of : List ℕ → List ℕ
query_of line = without_last 13 (line_of line)

-- it is empty or a comment
abbrev pub is_skipped : List ℕ → Bool
is_skipped [] = true
is_skipped (b ∷ bs) = b == 35

-- the query before the others, unless it is skipped
abbrev pub onto : List ℕ → List (List ℕ) → List (List ℕ)
onto query queries = if is_skipped query then queries else query ∷ queries

-- the queries of lines
abbrev pub queries_in : List (List ℕ) → List (List ℕ)
queries_in [] = []
queries_in (l ∷ ls) = onto (query_of l) (queries_in ls)

-- no more bytes are read, so that reading ends
abbrev pub max_queries_bytes : ℕ
max_queries_bytes = 2 ^ 64 - 1

-- the queries of a text, in order
unfoldable pub queries_of : List ℕ → List (List ℕ)
queries_of text = queries_in (lines (take max_queries_bytes text))
