-- Comprehensions, by their forms.
use Rattle.std.proofs.Common.{◌≡◌, ◌∙◌, List, Result, sym, ap, subst}
use Rattle.bq_base.specs.declared.fault.NameFault.{NameFault}
use Rattle.bq_base.specs.declared.fault.SourceErr.{SourceErr}
use Rattle.bq_parse_grammar.specs.declared.tree.Argument.TheOpen.{Expr-F}
use Rattle.bq_parse_grammar.specs.declared.tree.Clause.{Clause}
use Rattle.bq_parse_grammar.specs.declared.tree.ComprehensionFrame.{ComprehensionFrame}
use Rattle.bq_parse_grammar.specs.declared.tree.Expr.{Expr, out-Expr}
use Rattle.bq_parse_grammar.specs.declared.tree.Expr.TheVariants as e
use Rattle.bq_parse_grammar.specs.declared.tree.Expr.TheVariants.{outs-ListComprehension, outs-DictComprehension}
use Rattle.bq_parse_grammar.specs.declared.tree.Pair.{Pair}
use Rattle.bq_parse_grammar.specs.Targets.{ExprLayer}
use Rattle.bq_resolve_scope.specs.Scope.{BlockParts, FileParts}
use Rattle.bq_resolve_scope.specs.Visit.{Passed, Visit}
use Rattle.bq_resolve_scope.specs.Expressions.{comprehension, expr_by, pair}
use Rattle.bq_resolve.specs.Walks.{Writes}

module _ (file : FileParts) (visit : List BlockParts → Expr → Visit Expr) (blocks : List BlockParts) (x made : Expr) (s new : Passed) (r : Result (Unit {0}) (SourceErr NameFault)) where
  of_form : (l : ExprLayer) → out-Expr x ≡ l → Writes (expr_by file visit blocks l s) r made new → Writes (expr_by file visit blocks (out-Expr x) s) r made new
  of_form l is writes = let P : ExprLayer → Type 0 = λ v. Writes (expr_by file visit blocks v s) r made new in subst P (sym is) writes

  -- of a list
  pub list_form : (element : Expr) (cs : List Clause) (own : ComprehensionFrame) → x ≡ e.ListComprehension element cs own
      → Writes (comprehension file visit (λ bs. visit bs element) e.ListComprehension blocks cs s) r made new → Writes (expr_by file visit blocks (out-Expr x) s) r made new
  list_form element cs own is writes = of_form (Expr-F.ListComprehension element cs own) (ap out-Expr is ∙ outs-ListComprehension element cs own) writes

  -- of a dict
  pub dict_form : (p : Pair) (cs : List Clause) (own : ComprehensionFrame) → x ≡ e.DictComprehension p cs own
      → Writes (comprehension file visit (λ bs. pair file visit bs p) e.DictComprehension blocks cs s) r made new → Writes (expr_by file visit blocks (out-Expr x) s) r made new
  dict_form p cs own is writes = of_form (Expr-F.DictComprehension p cs own) (ap out-Expr is ∙ outs-DictComprehension p cs own) writes
