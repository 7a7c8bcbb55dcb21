-- Function values that read what stands in brackets, where `depth` more brackets may be opened.
use Rattle.std.specs.Prelude.{ℕ, List, Result}
use Rattle.std.specs.declared.alloc.Global.{Global}
use denote.Ref.{MutBor}
use Rattle.bq_parse_grammar.specs.Lexeme.{Lexeme}
use Rattle.bq_parse_grammar.specs.declared.refusal.SyntaxErr.{SyntaxErr}
use Rattle.bq_parse_grammar.specs.declared.tree.Expr.{Expr}
use Rattle.bq_parse_grammar.specs.declared.tree.Nested.{Nested}
use Rattle.bq_parse_grammar.specs.declared.tree.TargetExpr.{TargetExpr}
use Rattle.bq_parse_grammar.specs.Turns.{Reads}
use Rattle.bq_parse_grammar.specs.Reading.{phrase, var_to}

-- the call can be made for any tokens, and then reads the phrase of the kind `which` as `phrase` does
pub record ReadsNested (depth : ℕ) (pre : Global → MutBor (List Lexeme) → ℕ → Nested → Type 0)
    (post : Global → MutBor (List Lexeme) → ℕ → Nested → Result Expr SyntaxErr → MutBor (List Lexeme) → Type 0) : Type 0 where
  pub callable : (alloc : Global) (old : MutBor (List Lexeme)) (which : Nested) → pre alloc old depth which
  pub reads : (alloc : Global) (old new : MutBor (List Lexeme)) (which : Nested) (r : Result Expr SyntaxErr) → post alloc old depth which r new
      → Reads (phrase depth which old.now) r new.now

-- the call can be made for any tokens, and then reads the variable of a `for` as `var_to` does
pub record ReadsVar (depth : ℕ) (pre : Global → MutBor (List Lexeme) → ℕ → Type 0)
    (post : Global → MutBor (List Lexeme) → ℕ → Result TargetExpr SyntaxErr → MutBor (List Lexeme) → Type 0) : Type 0 where
  pub callable : (alloc : Global) (old : MutBor (List Lexeme)) → pre alloc old depth
  pub reads : (alloc : Global) (old new : MutBor (List Lexeme)) (r : Result TargetExpr SyntaxErr) → post alloc old depth r new
      → Reads (var_to depth old.now) r new.now
