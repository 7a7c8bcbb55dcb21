-- Rules of expressions in a scope, where the expressions inside are at most `depth` layers deep.
use Rattle.std.specs.Prelude.{ℕ, List}
use Rattle.bq_parse_grammar.specs.declared.tree.Expr.{Expr}
use Rattle.bq_parse_grammar.specs.declared.tree.TargetExpr.{TargetExpr}
use Rattle.bq_resolve_scope.specs.Scope.{BlockParts, FileParts}
use Rattle.bq_resolve_scope.specs.Visit.{Visit}
use Rattle.bq_resolve_scope.specs.Expressions.{expr_to, target_to}
use Rattle.bq_resolve.specs.declared.scope.Scope.{Scope}

-- what a rule gives with the names of the file and among the blocks of this scope
abbrev pub in_scope : {A : Type 0} → (FileParts → (List BlockParts → Expr → Visit Expr) → List BlockParts → A) → ℕ → Scope → A
in_scope rule depth scope = rule scope.file.now (expr_to depth scope.file.now) scope.blocks.now

-- a target that is at most this many layers deep
abbrev pub target_in : ℕ → Scope → ℕ → TargetExpr → Visit TargetExpr
target_in depth scope layers = target_to scope.file.now (expr_to depth scope.file.now) layers scope.blocks.now
