-- The law of names, by induction on the layers of the tree.
use Rattle.std.proofs.Common.{◌≤◌, ℕ, zero, suc, List, [], subst, arith}
use Rattle.bq_parse_grammar.specs.declared.tree.Expr.{Expr, out-Expr}
use Rattle.bq_resolve_scope.specs.Expressions as scope
use Rattle.bq_resolve_scope.specs.Names.{max_layers}
use Rattle.bq_resolve_scope.specs.Scope.{BlockParts, FileParts}
use Rattle.bq_eval_spec.specs.Frame.{Surroundings, empty}
use Rattle.bq_eval_spec.specs.Primitives.{Primitives}
use Rattle.bq_eval_spec.specs.Expressions as language
use Rattle.bq_eval_spec.specs.Slots.{by_slots}
use Rattle.bq_eval_spec.specs.Trees.{Calls}
use Rattle.bq_eval_spec.specs.Names.{Round, outside, by_names}
use Rattle.bq_eval_by_name.specs.ExpressionAgreement.{CallsAgree, LayersAgree, ExpressionsAgree, OutsideAgree}
use Rattle.bq_eval_by_name.specs.Shows.{Nested, Around}
use Rattle.bq_eval_by_name.proofs.Runs.{plain}
use Rattle.bq_eval_by_name.proofs.Walks.{Walked, Walks}
use Rattle.bq_eval_by_name.proofs.Envs.{shows_outside}
use Rattle.bq_eval_by_name.proofs.ResolvedParts.{Stands}
use Rattle.bq_eval_by_name.proofs.ResolvedExpressions.{expr_by_walks}

module _ {S : Type 0} (m : Primitives S) (file : FileParts) (round : Round) (surroundings : Surroundings) (call other : Calls S) (around : Around file round surroundings) (called : CallsAgree call other) where
  pub expr_walks : (n k l : ℕ) → n ≤ k → n ≤ l → (blocks : List BlockParts) → Nested blocks → (x : Expr)
      → Walks {A = Expr} blocks (λ z. Stands (language.expr_to k m by_names call round) (language.expr_to l m by_slots other surroundings) blocks x z) (scope.expr_to n file blocks x)
  unfolding scope.expr_to language.expr_to language.expr
  expr_walks zero k l few enough blocks nested x = λ u below. tt
  expr_walks (suc n) zero l few enough blocks nested x = absurd (omega arith)
  expr_walks (suc n) (suc k) zero few enough blocks nested x = absurd (omega arith)
  expr_walks (suc n) (suc k) (suc l) few enough blocks nested x =
      expr_by_walks m file (scope.expr_to n file) (language.expr_to k m by_names call round) (language.expr_to l m by_slots other surroundings) call other called round surroundings around
      (expr_walks n k l (omega arith) (omega arith)) blocks nested (out-Expr x)

  pub layers_agree : LayersAgree m file round surroundings call other
  layers_agree n k l blocks x z p q few enough nested below e env frame s shows =
      plain (language.expr_to k m by_names call round x env s) (language.expr_to l m by_slots other surroundings z frame s)
      ((subst (λ r. Walked {A = Expr} (λ y. Stands (language.expr_to k m by_names call round) (language.expr_to l m by_slots other surroundings) blocks x y) p.slots r) e (expr_walks n k l few enough blocks nested x p below)).1.1
      env frame shows s)

  pub expressions_agree : ExpressionsAgree m file round surroundings call other
  expressions_agree blocks x z p q nested below e env frame s shows =
      layers_agree max_layers max_layers max_layers blocks x z p q (omega arith) (omega arith) nested below e env frame s shows

  pub outside_agree : OutsideAgree m file round surroundings call other
  outside_agree x z p q e s = expressions_agree [] x z p q tt tt e outside empty s shows_outside
