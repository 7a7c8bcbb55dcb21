-- What fits has no more layers, in the words of the laws of the meaning.
use Rattle.std.proofs.Common.{ℕ, zero, suc, List, [], ◌∷◌, Option, Some, None}
use Rattle.std.specs.List.{AllByRecursion}
use Rattle.bq_parse_grammar.specs.declared.tree.Argument.TheOpen.{Expr-F, Argument-F, Clause-F, Suffix-F, TargetExpr-F}
use Rattle.bq_parse_grammar.specs.declared.tree.Expr.{Expr, out-Expr}
use Rattle.bq_parse_grammar.specs.declared.tree.Argument.{Argument, out-Argument}
use Rattle.bq_parse_grammar.specs.declared.tree.Branch.{out-Branch}
use Rattle.bq_parse_grammar.specs.declared.tree.Clause.{Clause, out-Clause}
use Rattle.bq_parse_grammar.specs.declared.tree.Stmt.{Stmt, out-Stmt}
use Rattle.bq_parse_grammar.specs.declared.tree.Stmt.TheOpen.{Stmt-F}
use Rattle.bq_parse_grammar.specs.declared.tree.Suffix.{out-Suffix}
use Rattle.bq_parse_grammar.specs.declared.tree.TargetExpr.{TargetExpr, out-TargetExpr}
use Rattle.bq_parse_grammar.specs.Targets.{ExprLayer, SuffixLayer}
use Rattle.bq_resolve_scope.specs.Names.{ClauseLayer, TargetLayer}
use Rattle.bq_eval_spec.specs.Trees.{ArgumentLayer, StmtLayer}
use Rattle.bq_eval_laws.specs.Layers.{PairParts, OperationParts, ChoiceParts, ArgumentLayerParts, ArgumentParts, OptionalParts, SuffixLayerParts, SuffixParts, ClauseLayerParts, ClauseParts, ExprParts, IsWithin, TargetParts, TargetIsWithin, BranchParts, StmtParts, StmtIsWithin}
use Rattle.bq_eval_laws.specs.Fits.{TargetFits, ExprFitsTo, BranchFits, StmtLayerFits, StmtFits}

each : {A : Type 0} (P Q : A → Type 0) → ((x : A) → P x → Q x) → (xs : List A) → AllByRecursion P xs → AllByRecursion Q xs
each P Q weaker [] h = tt
each P Q weaker (x ∷ xs) h = (weaker x h.0, each P Q weaker xs h.1)

module _ (P Q : Expr → Type 0) (weaker : (x : Expr) → P x → Q x) where
  argument : (o : ArgumentLayer) → ArgumentLayerParts P o → ArgumentLayerParts Q o
  argument (Argument-F.Positional x) h = weaker x h
  argument (Argument-F.Named name x) h = weaker x h
  argument (Argument-F.Star x) h = weaker x h
  argument (Argument-F.StarStar x) h = weaker x h

  arguments : (xs : List Argument) → AllByRecursion (ArgumentParts P) xs → AllByRecursion (ArgumentParts Q) xs
  arguments = each (ArgumentParts P) (ArgumentParts Q) (λ x. argument (out-Argument x))

  optional : (x : Option Expr) → OptionalParts P x → OptionalParts Q x
  optional None h = tt
  optional (Some x) h = weaker x h

  suffix : (o : SuffixLayer) → SuffixLayerParts P o → SuffixLayerParts Q o
  suffix (Suffix-F.Call xs) h = arguments xs h
  suffix (Suffix-F.Method name xs) h = arguments xs h
  suffix (Suffix-F.Attribute name) h = tt
  suffix (Suffix-F.Suffix::Index i) h = weaker i h
  suffix (Suffix-F.Slice i j k) h = (optional i h.0, optional j h.1, optional k h.2)

  clause : (o : ClauseLayer) → ClauseLayerParts P o → ClauseLayerParts Q o
  clause (Clause-F.For t x) h = weaker x h
  clause (Clause-F.If x) h = weaker x h

  clauses : (cs : List Clause) → AllByRecursion (ClauseParts P) cs → AllByRecursion (ClauseParts Q) cs
  clauses = each (ClauseParts P) (ClauseParts Q) (λ c. clause (out-Clause c))

  expr : (o : ExprLayer) → ExprParts P o → ExprParts Q o
  expr (Expr-F.Expr::Name n) h = tt
  expr (Expr-F.Int n) h = tt
  expr (Expr-F.String t) h = tt
  expr (Expr-F.Expr::List xs) h = each P Q weaker xs h
  expr (Expr-F.Expr::Tuple xs) h = each P Q weaker xs h
  expr (Expr-F.Dict ps) h = each (PairParts P) (PairParts Q) (λ _ k. (weaker _ k.0, weaker _ k.1)) ps h
  expr (Expr-F.ListComprehension x cs own) h = (weaker x h.0, clauses cs h.1)
  expr (Expr-F.DictComprehension p cs own) h = ((weaker _ h.0.0, weaker _ h.0.1), clauses cs h.1)
  expr (Expr-F.Primary x xs) h = (weaker x h.0, each (SuffixParts P) (SuffixParts Q) (λ s. suffix (out-Suffix s)) xs h.1)
  expr (Expr-F.Unary os x) h = weaker x h
  expr (Expr-F.Binary x os) h = (weaker x h.0, each (OperationParts P) (OperationParts Q) (λ _ k. weaker _ k) os h.1)
  expr (Expr-F.Compare x o y) h = (weaker x h.0, weaker y h.1)
  expr (Expr-F.Conditional cs x) h = (each (ChoiceParts P) (ChoiceParts Q) (λ _ k. (weaker _ k.0, weaker _ k.1)) cs h.0, weaker x h.1)
  expr Expr-F.Lambda h = tt

pub expr_within : (n : ℕ) (x : Expr) → ExprFitsTo n x → IsWithin n x
unfolding ExprFitsTo IsWithin
expr_within zero x h = h
expr_within (suc n) x h = expr (ExprFitsTo n) (IsWithin n) (expr_within n) (out-Expr x) h.0

target : (P Q : TargetExpr → Type 0) → ((t : TargetExpr) → P t → Q t) → (o : TargetLayer) → TargetParts P o → TargetParts Q o
target P Q weaker (TargetExpr-F.TargetExpr::Name n) h = tt
target P Q weaker (TargetExpr-F.TargetExpr::Index x i) h = tt
target P Q weaker (TargetExpr-F.TargetExpr::Tuple ts) h = each P Q weaker ts h
target P Q weaker (TargetExpr-F.TargetExpr::List ts) h = each P Q weaker ts h

pub target_within : (E : Expr → Type 0) (n : ℕ) (t : TargetExpr) → TargetFits E n t → TargetIsWithin n t
unfolding TargetFits TargetIsWithin
target_within E zero t h = h
target_within E (suc n) t h = target (TargetFits E n) (TargetIsWithin n) (target_within E n) (out-TargetExpr t) h.0

stmt : (P Q : Stmt → Type 0) → ((x : Stmt) → P x → Q x) → (o : StmtLayer) → StmtLayerFits P o → StmtParts Q o
stmt P Q weaker (Stmt-F.Simple xs) h = tt
stmt P Q weaker (Stmt-F.If bs otherwise) h =
    (each (BranchFits P) (BranchParts Q) (λ b k. each P Q weaker (out-Branch b).block k.1) bs h.0, each P Q weaker otherwise h.1)
stmt P Q weaker (Stmt-F.For t x body) h = each P Q weaker body h.2
stmt P Q weaker (Stmt-F.Def n ps body) h = tt

pub stmt_within : (n : ℕ) (x : Stmt) → StmtFits n x → StmtIsWithin n x
unfolding StmtFits StmtIsWithin
stmt_within zero x h = h
stmt_within (suc n) x h = stmt (StmtFits n) (StmtIsWithin n) (stmt_within n) (out-Stmt x) h
