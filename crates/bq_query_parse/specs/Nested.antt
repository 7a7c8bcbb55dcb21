-- Function values that read the queries inside parentheses and lets.
use Rattle.std.specs.Prelude.{ℕ, List, Result}
use Rattle.std.specs.declared.alloc.Global.{Global}
use denote.Ref.{MutBor}
use Rattle.bq_query_parse.specs.Lexeme.{Lexeme}
use Rattle.bq_query_parse.specs.declared.refusal.QuerySyntaxErr.{QuerySyntaxErr}
use Rattle.bq_query_parse.specs.declared.tree.Query.{Query}
use Rattle.bq_query_parse.specs.Turns.{Reads}
use Rattle.bq_query_parse.specs.Reading.{query_to}

-- the call can be made for any tokens, and then reads a query as `query_to` does, with fewer than `depth` open
pub record ReadsQuery (depth : ℕ) (pre : Global → MutBor (List Lexeme) → ℕ → Type 0)
    (post : Global → MutBor (List Lexeme) → ℕ → Result Query QuerySyntaxErr → MutBor (List Lexeme) → Type 0) : Type 0 where
  pub callable : (alloc : Global) (old : MutBor (List Lexeme)) → pre alloc old depth
  pub reads : (alloc : Global) (old new : MutBor (List Lexeme)) (r : Result Query QuerySyntaxErr) → post alloc old depth r new → Reads (query_to depth old.now) r new.now
