-- What holds of the outermost layer that a tree is made of holds of the layer that is seen in it.
use Rattle.std.proofs.Common.{◌≡◌, sym, ap, ◌∙◌, subst}
use Rattle.bq_parse_grammar.specs.declared.tree.Argument.{Argument, out-Argument, roll-Argument, out-roll-Argument}
use Rattle.bq_parse_grammar.specs.declared.tree.Clause.{Clause, out-Clause, roll-Clause, out-roll-Clause}
use Rattle.bq_parse_grammar.specs.declared.tree.Expr.{Expr, out-Expr, roll-Expr, out-roll-Expr}
use Rattle.bq_parse_grammar.specs.declared.tree.Suffix.{Suffix, out-Suffix, roll-Suffix, out-roll-Suffix}
use Rattle.bq_parse_grammar.specs.declared.tree.TargetExpr.{TargetExpr, out-TargetExpr, roll-TargetExpr, out-roll-TargetExpr}
use Rattle.bq_parse_grammar.specs.Targets.{ExprLayer, SuffixLayer}
use Rattle.bq_resolve_scope.specs.Names.{TargetLayer, ClauseLayer}
use Rattle.bq_eval_spec.specs.Trees.{ArgumentLayer}

pub made_expr : (P : ExprLayer → Type 0) (x : Expr) (o : ExprLayer) → roll-Expr o ≡ x → P o → P (out-Expr x)
made_expr P x o e h = subst (λ z. P z) (sym (out-roll-Expr o) ∙ ap out-Expr e) h

pub made_suffix : (P : SuffixLayer → Type 0) (x : Suffix) (o : SuffixLayer) → roll-Suffix o ≡ x → P o → P (out-Suffix x)
made_suffix P x o e h = subst (λ z. P z) (sym (out-roll-Suffix o) ∙ ap out-Suffix e) h

pub made_argument : (P : ArgumentLayer → Type 0) (x : Argument) (o : ArgumentLayer) → roll-Argument o ≡ x → P o → P (out-Argument x)
made_argument P x o e h = subst (λ z. P z) (sym (out-roll-Argument o) ∙ ap out-Argument e) h

pub made_clause : (P : ClauseLayer → Type 0) (x : Clause) (o : ClauseLayer) → roll-Clause o ≡ x → P o → P (out-Clause x)
made_clause P x o e h = subst (λ z. P z) (sym (out-roll-Clause o) ∙ ap out-Clause e) h

pub made_target : (P : TargetLayer → Type 0) (x : TargetExpr) (o : TargetLayer) → roll-TargetExpr o ≡ x → P o → P (out-TargetExpr x)
made_target P x o e h = subst (λ z. P z) (sym (out-roll-TargetExpr o) ∙ ap out-TargetExpr e) h
