-- One layer of a tree, where more than none are looked at.
use Rattle.std.proofs.Common.{◌≡◌, ◌∙◌, ◌-◌, ℕ, zero, suc, List, [], Result, Ok, Err, refl, ap, arith}
use Rattle.bq_base.specs.declared.fault.NameFault.{NameFault}
use Rattle.bq_base.specs.declared.fault.Fault.{Fault}
use Rattle.bq_base.specs.declared.fault.SourceErr.{SourceErr}
use Rattle.bq_parse_grammar.specs.declared.tree.TargetExpr.{TargetExpr, out-TargetExpr}
use Rattle.bq_parse_grammar.specs.declared.tree.TargetExpr.TheVariants as form
use Rattle.bq_parse_grammar.specs.declared.tree.TargetExpr.TheVariants.{outs-Tuple, outs-List}
use Rattle.bq_parse_grammar.specs.declared.tree.Expr.{Expr, out-Expr}
use Rattle.bq_resolve_scope.specs.Scope.{BlockParts, FileParts}
use Rattle.bq_resolve_scope.specs.Visit.{Passed, Visit, following, pure, each}
use Rattle.bq_resolve_scope.specs.Expressions.{target_by, target_to, expr_by, expr_to}
use Rattle.bq_resolve.specs.Walks.{Writes}

pub target_layer : (file : FileParts) (visit : List BlockParts → Expr → Visit Expr) (layers : ℕ) (blocks : List BlockParts) (t : TargetExpr) (s : Passed) → (layers ≡ 0 → ⊥)
    → target_to file visit layers blocks t s ≡ target_by file visit (target_to file visit (layers - 1) blocks) blocks (out-TargetExpr t) s
unfolding target_to
target_layer file visit zero blocks t s some = absurd (some refl)
target_layer file visit (suc layers) blocks t s some = let e : suc layers - 1 ≡ layers = omega arith in rw e refl

-- the walk along a part, and what is made of the part
made_of : {A B : Type 0} (make : A → B) (v : Result (A × Passed) (Fault NameFault)) (w : Result (B × Passed) (Fault NameFault)) (r : Result (Unit {0}) (SourceErr NameFault)) (x : A) (new : Passed)
    → w ≡ following v (λ y. pure (make y)) → Writes v r x new → Writes w r (make x) new
made_of make v w (Ok u) x new is walks = is ∙ ap (λ found. following found (λ y. pure (make y))) walks
made_of make v w (Err e) x new is walks = λ why h. is ∙ ap (λ found. following found (λ y. pure (make y))) (walks why h)

module _ (file : FileParts) (visit : List BlockParts → Expr → Visit Expr) (layers : ℕ) (blocks : List BlockParts) (s new : Passed) (some : layers ≡ 0 → ⊥) (r : Result (Unit {0}) (SourceErr NameFault)) where
  -- a tuple of targets
  pub tuple_form : (xs ys : List TargetExpr) → Writes (each (target_to file visit (layers - 1) blocks) [] xs s) r ys new
      → Writes (target_to file visit layers blocks (form.Tuple xs) s) r (form.Tuple ys) new
  tuple_form xs ys walks =
      made_of form.Tuple (each (target_to file visit (layers - 1) blocks) [] xs s) (target_to file visit layers blocks (form.Tuple xs) s) r ys new
      (target_layer file visit layers blocks (form.Tuple xs) s some ∙ ap (λ l. target_by file visit (target_to file visit (layers - 1) blocks) blocks l s) (outs-Tuple xs)) walks

  -- a list of targets
  pub list_form : (xs ys : List TargetExpr) → Writes (each (target_to file visit (layers - 1) blocks) [] xs s) r ys new
      → Writes (target_to file visit layers blocks (form.List xs) s) r (form.List ys) new
  list_form xs ys walks =
      made_of form.List (each (target_to file visit (layers - 1) blocks) [] xs s) (target_to file visit layers blocks (form.List xs) s) r ys new
      (target_layer file visit layers blocks (form.List xs) s some ∙ ap (λ l. target_by file visit (target_to file visit (layers - 1) blocks) blocks l s) (outs-List xs)) walks

pub expr_layer : (depth : ℕ) (file : FileParts) (blocks : List BlockParts) (x : Expr) (s : Passed) → (depth ≡ 0 → ⊥)
    → expr_to depth file blocks x s ≡ expr_by file (expr_to (depth - 1) file) blocks (out-Expr x) s
unfolding expr_to
expr_layer zero file blocks x s some = absurd (some refl)
expr_layer (suc depth) file blocks x s some = let e : suc depth - 1 ≡ depth = omega arith in rw e refl
