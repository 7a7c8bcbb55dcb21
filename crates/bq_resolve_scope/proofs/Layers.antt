-- One layer of a tree, where more than none are looked at.
use Rattle.std.proofs.Common.{◌≡◌, ◌-◌, ℕ, zero, suc, List, refl, arith}
use Rattle.bq_parse_grammar.specs.declared.tree.Stmt.{Stmt, out-Stmt}
use Rattle.bq_parse_grammar.specs.declared.tree.TargetExpr.{TargetExpr, out-TargetExpr}
use Rattle.bq_resolve_scope.specs.Names.{Name, with_target_by, with_target_to, with_stmt_by, with_stmt_to}

pub target_layer : (depth : ℕ) (names : List Name) (t : TargetExpr) → (depth ≡ 0 → ⊥)
    → with_target_to depth names t ≡ with_target_by (with_target_to (depth - 1)) names (out-TargetExpr t)
unfolding with_target_to
target_layer zero names t some = absurd (some refl)
target_layer (suc depth) names t some = let e : suc depth - 1 ≡ depth = omega arith in rw e refl

pub stmt_layer : (depth : ℕ) (names : List Name) (s : Stmt) → (depth ≡ 0 → ⊥)
    → with_stmt_to depth names s ≡ with_stmt_by (with_stmt_to (depth - 1)) names (out-Stmt s)
unfolding with_stmt_to
stmt_layer zero names s some = absurd (some refl)
stmt_layer (suc depth) names s some = let e : suc depth - 1 ≡ depth = omega arith in rw e refl
