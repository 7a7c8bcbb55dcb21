-- The numbers and names of the errors of queries, what is printed after them, and when calls fail with them.
use Rattle.std.specs.Prelude.{◌≡◌, ◌≢◌, ℕ, List, [], Option, Some, None, Result, Ok, Err, codes}
use Rattle.bq_query_lex.specs.declared.query_error.QueryErr.{QueryErr}
use Rattle.bq_query_lex.specs.declared.query_error.QueryErr.TheVariants.{Syntax, UnknownFunction, LeftOut, BadRegex, NoSuchTarget, NoSuchPackage, UnboundVariable, Arguments, Memory}

-- the number and the name of an error, with a space between
abbrev pub query_title : QueryErr → List ℕ
query_title Syntax = codes "Q1 Syntax"
query_title (UnknownFunction name) = codes "Q2 UnknownFunction"
query_title (LeftOut word) = codes "Q3 LeftOut"
query_title BadRegex = codes "Q4 BadRegex"
query_title (NoSuchTarget label) = codes "Q5 NoSuchTarget"
query_title (NoSuchPackage pattern) = codes "Q6 NoSuchPackage"
query_title (UnboundVariable name) = codes "Q7 UnboundVariable"
query_title Arguments = codes "Q8 Arguments"
query_title Memory = codes "Q9 Memory"

-- what is printed after the name: the function, word, label, pattern or variable at fault; empty for the others
abbrev pub query_detail : QueryErr → List ℕ
query_detail (UnknownFunction name) = name
query_detail (LeftOut word) = word
query_detail (NoSuchTarget label) = label
query_detail (NoSuchPackage pattern) = pattern
query_detail (UnboundVariable name) = name
query_detail Syntax = []
query_detail BadRegex = []
query_detail Arguments = []
query_detail Memory = []

-- what a call ensures, out of memory aside: no fault where it succeeds, else this one
abbrev pub Meets : {A : Type 0} → Option QueryErr → Result A QueryErr → Type 0
Meets fault (Ok x) = fault ≡ None
Meets fault (Err why) = why ≢ Memory → fault ≡ Some why
