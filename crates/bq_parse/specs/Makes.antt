-- What a function ensures that makes something of a tree.
use Rattle.std.specs.Prelude.{ℕ, Result, Ok, Err, ◌≡◌, ◌≢◌}
use Rattle.std.specs.declared.alloc.Global.{Global}
use Rattle.bq_parse_grammar.specs.declared.refusal.SyntaxErr.{SyntaxErr}
use Rattle.bq_parse_grammar.specs.declared.refusal.SyntaxErr.TheVariants.{Memory}
use Rattle.bq_parse_grammar.specs.declared.tree.Expr.{Expr}
use Rattle.bq_parse_grammar.specs.declared.tree.TargetExpr.{TargetExpr}
use Rattle.bq_parse_grammar.specs.Targets.{target_to}

-- what the definition makes, out of memory aside
abbrev pub Makes : {A : Type 0} → Result A SyntaxErr → Result A SyntaxErr → Type 0
Makes made (Ok x) = made ≡ Ok x
Makes made (Err e) = e ≢ Memory → made ≡ Err e

-- a function value that makes targets, in which lists and tuples nest less than `depth` deep
pub record MakesTarget (depth : ℕ) (pre : Global → ℕ → Expr → Type 0) (post : Global → ℕ → Expr → Result TargetExpr SyntaxErr → Type 0) : Type 0 where
  pub callable : (alloc : Global) (x : Expr) → pre alloc depth x
  pub makes : (alloc : Global) (x : Expr) (r : Result TargetExpr SyntaxErr) → post alloc depth x r → Makes (target_to depth x) r
