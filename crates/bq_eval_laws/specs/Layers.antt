-- How many layers a tree has: an expression is at most n layers deep if the expressions in it are at most n -
-- 1 layers deep; so are statements, and the targets of assignments.
use Rattle.std.specs.Prelude.{ℕ, zero, suc, Option, Some, None}
use Rattle.std.specs.List.{AllByRecursion}
use Rattle.bq_parse_grammar.specs.declared.tree.Expr.{Expr, out-Expr}
use Rattle.bq_parse_grammar.specs.declared.tree.Argument.TheOpen.{Expr-F, Argument-F, Clause-F, Suffix-F, TargetExpr-F}
use Rattle.bq_parse_grammar.specs.declared.tree.Argument.{Argument, out-Argument}
use Rattle.bq_parse_grammar.specs.declared.tree.Branch.{Branch, out-Branch}
use Rattle.bq_parse_grammar.specs.declared.tree.Choice.{Choice, out-Choice}
use Rattle.bq_parse_grammar.specs.declared.tree.Clause.{Clause, out-Clause}
use Rattle.bq_parse_grammar.specs.declared.tree.Operation.{Operation, out-Operation}
use Rattle.bq_parse_grammar.specs.declared.tree.Pair.{Pair, out-Pair}
use Rattle.bq_parse_grammar.specs.declared.tree.Stmt.{Stmt, out-Stmt}
use Rattle.bq_parse_grammar.specs.declared.tree.Stmt.TheOpen.{Stmt-F}
use Rattle.bq_parse_grammar.specs.declared.tree.Suffix.{Suffix, out-Suffix}
use Rattle.bq_parse_grammar.specs.declared.tree.TargetExpr.{TargetExpr, out-TargetExpr}
use Rattle.bq_parse_grammar.specs.Targets.{ExprLayer, SuffixLayer}
use Rattle.bq_resolve_scope.specs.Names.{ClauseLayer, TargetLayer}
use Rattle.bq_eval_spec.specs.Environment.{NamespaceCall}
use Rattle.bq_eval_spec.specs.Trees.{ArgumentLayer, StmtLayer}

-- ---- expressions: `P` holds of each expression that is a part

module _ (P : Expr → Type 0) where
  abbrev pub PairParts : Pair → Type 0
  PairParts p = P (out-Pair p).key × P (out-Pair p).value

  abbrev pub OperationParts : Operation → Type 0
  OperationParts o = P (out-Operation o).operand

  abbrev pub ChoiceParts : Choice → Type 0
  ChoiceParts c = P (out-Choice c).condition × P (out-Choice c).value

  abbrev pub ArgumentLayerParts : ArgumentLayer → Type 0
  ArgumentLayerParts (Argument-F.Positional x) = P x
  ArgumentLayerParts (Argument-F.Named name x) = P x
  ArgumentLayerParts (Argument-F.Star x) = P x
  ArgumentLayerParts (Argument-F.StarStar x) = P x

  abbrev pub ArgumentParts : Argument → Type 0
  ArgumentParts a = ArgumentLayerParts (out-Argument a)

  abbrev pub OptionalParts : Option Expr → Type 0
  OptionalParts None = Unit {0}
  OptionalParts (Some x) = P x

  abbrev pub SuffixLayerParts : SuffixLayer → Type 0
  SuffixLayerParts (Suffix-F.Call xs) = AllByRecursion ArgumentParts xs
  SuffixLayerParts (Suffix-F.Method name xs) = AllByRecursion ArgumentParts xs
  SuffixLayerParts (Suffix-F.Attribute name) = Unit {0}
  SuffixLayerParts (Suffix-F.Suffix::Index i) = P i
  SuffixLayerParts (Suffix-F.Slice i j k) = OptionalParts i × OptionalParts j × OptionalParts k

  abbrev pub SuffixParts : Suffix → Type 0
  SuffixParts s = SuffixLayerParts (out-Suffix s)

  -- of a namespace's member that is called
  abbrev pub MemberParts : Option NamespaceCall → Type 0
  MemberParts None = Unit {0}
  MemberParts (Some (found, xs, rest)) = AllByRecursion ArgumentParts xs × AllByRecursion SuffixParts rest

  abbrev pub ClauseLayerParts : ClauseLayer → Type 0
  ClauseLayerParts (Clause-F.For t x) = P x
  ClauseLayerParts (Clause-F.If x) = P x

  abbrev pub ClauseParts : Clause → Type 0
  ClauseParts c = ClauseLayerParts (out-Clause c)

  abbrev pub ExprParts : ExprLayer → Type 0
  ExprParts (Expr-F.Expr::Name n) = Unit {0}
  ExprParts (Expr-F.Int n) = Unit {0}
  ExprParts (Expr-F.String t) = Unit {0}
  ExprParts (Expr-F.Expr::List xs) = AllByRecursion P xs
  ExprParts (Expr-F.Expr::Tuple xs) = AllByRecursion P xs
  ExprParts (Expr-F.Dict ps) = AllByRecursion PairParts ps
  ExprParts (Expr-F.ListComprehension x cs own) = P x × AllByRecursion ClauseParts cs
  ExprParts (Expr-F.DictComprehension p cs own) = PairParts p × AllByRecursion ClauseParts cs
  ExprParts (Expr-F.Primary x xs) = P x × AllByRecursion SuffixParts xs
  ExprParts (Expr-F.Unary os x) = P x
  ExprParts (Expr-F.Binary x os) = P x × AllByRecursion OperationParts os
  ExprParts (Expr-F.Compare x o y) = P x × P y
  ExprParts (Expr-F.Conditional cs x) = AllByRecursion ChoiceParts cs × P x
  ExprParts Expr-F.Lambda = Unit {0}

-- an expression is at most this many layers deep
unfoldable pub IsWithin : ℕ → Expr → Type 0
IsWithin zero x = ⊥
IsWithin (suc layers) x = ExprParts (IsWithin layers) (out-Expr x)

-- ---- targets

-- `P` holds of each target in a tuple or a list; a name and `x[i]` have none
abbrev pub TargetParts : (TargetExpr → Type 0) → TargetLayer → Type 0
TargetParts P (TargetExpr-F.TargetExpr::Tuple ts) = AllByRecursion P ts
TargetParts P (TargetExpr-F.TargetExpr::List ts) = AllByRecursion P ts
TargetParts P _ = Unit {0}

-- a target is at most this many layers deep
unfoldable pub TargetIsWithin : ℕ → TargetExpr → Type 0
TargetIsWithin zero t = ⊥
TargetIsWithin (suc layers) t = TargetParts (TargetIsWithin layers) (out-TargetExpr t)

-- ---- statements

-- `P` holds of each statement of the branch's block
abbrev pub BranchParts : (Stmt → Type 0) → Branch → Type 0
BranchParts P b = AllByRecursion P (out-Branch b).block

-- `P` holds of each statement in the blocks of an `if` or a `for`; nothing is said of what is in a `def`
abbrev pub StmtParts : (Stmt → Type 0) → StmtLayer → Type 0
StmtParts P (Stmt-F.Simple xs) = Unit {0}
StmtParts P (Stmt-F.If bs otherwise) = AllByRecursion (BranchParts P) bs × AllByRecursion P otherwise
StmtParts P (Stmt-F.For t x body) = AllByRecursion P body
StmtParts P (Stmt-F.Def n ps body) = Unit {0}

-- a statement is at most this many layers deep
unfoldable pub StmtIsWithin : ℕ → Stmt → Type 0
StmtIsWithin zero x = ⊥
StmtIsWithin (suc layers) x = StmtParts (StmtIsWithin layers) (out-Stmt x)
