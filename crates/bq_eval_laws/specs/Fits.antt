-- Trees that are no deeper than the layers that are looked at, with all trees in them: `IsWithin`, `TargetIsWithin` and
-- `StmtIsWithin` of bq_eval_laws, of each expression, target and statement of a file, wherever it is.
use Rattle.std.specs.Prelude.{ℕ, zero, suc}
use Rattle.std.specs.List.{AllByRecursion}
use Rattle.bq_parse_grammar.specs.declared.tree.Expr.{Expr, out-Expr}
use Rattle.bq_parse_grammar.specs.declared.tree.Argument.TheOpen.{Expr-F, Clause-F, TargetExpr-F}
use Rattle.bq_parse_grammar.specs.declared.tree.Branch.{Branch, out-Branch}
use Rattle.bq_parse_grammar.specs.declared.tree.Clause.{Clause, out-Clause}
use Rattle.bq_parse_grammar.specs.declared.tree.SmallKind.{SmallKind}
use Rattle.bq_parse_grammar.specs.declared.tree.Stmt.{Stmt, out-Stmt}
use Rattle.bq_parse_grammar.specs.declared.tree.Stmt.TheOpen.{Stmt-F}
use Rattle.bq_parse_grammar.specs.declared.tree.TargetExpr.{TargetExpr, out-TargetExpr}
use Rattle.bq_parse_grammar.specs.declared.tree.Parameter.{Parameter}
use Rattle.bq_parse_grammar.specs.Targets.{ExprLayer}
use Rattle.bq_parse_grammar.specs.declared.tree.SmallStmt.{SmallStmt}
use Rattle.bq_parse_grammar.specs.declared.tree.SmallKind.TheVariants as small
use Rattle.bq_parse_grammar.specs.declared.tree.Parameter.TheVariants as parameter
use Rattle.bq_resolve_scope.specs.declared.file.Function.{Function}
use Rattle.bq_resolve_scope.specs.declared.file.FileLine.{FileLine}
use Rattle.bq_resolve_scope.specs.declared.file.Outside.{Outside}
use Rattle.bq_resolve_scope.specs.declared.file.ResolvedFile.{ResolvedFile}
use Rattle.bq_resolve_scope.specs.Names.{max_layers, ClauseLayer, TargetLayer}
use Rattle.bq_resolve_scope.specs.declared.file.Outside.TheVariants as outside
use Rattle.bq_eval_spec.specs.Trees.{StmtLayer}
use Rattle.bq_eval_laws.specs.Layers.{OptionalParts, ExprParts, TargetParts}

-- ---- targets: `E` holds of the operand and the index of each part `x[i]`

-- `E` holds of both expressions of `x[i]`; any other target has no expression of its own
abbrev pub IndexParts : (Expr → Type 0) → TargetLayer → Type 0
IndexParts E (TargetExpr-F.TargetExpr::Index x i) = E x × E i
IndexParts E _ = Unit {0}

-- a target is at most this many layers deep, and `E` holds of each expression in it
unfoldable pub TargetFits : (Expr → Type 0) → ℕ → TargetExpr → Type 0
TargetFits E zero t = ⊥
TargetFits E (suc layers) t = TargetParts (TargetFits E layers) (out-TargetExpr t) × IndexParts E (out-TargetExpr t)

-- ---- expressions: `T` holds of the variables of each clause

module _ (T : TargetExpr → Type 0) where
  abbrev pub VariablesOfLayer : ClauseLayer → Type 0
  VariablesOfLayer (Clause-F.For t x) = T t
  VariablesOfLayer (Clause-F.If x) = Unit {0}

  abbrev pub Variables : Clause → Type 0
  Variables c = VariablesOfLayer (out-Clause c)

  abbrev pub VariableParts : ExprLayer → Type 0
  VariableParts (Expr-F.ListComprehension x cs own) = AllByRecursion Variables cs
  VariableParts (Expr-F.DictComprehension p cs own) = AllByRecursion Variables cs
  VariableParts _ = Unit {0}

-- an expression is at most this many layers deep; the variables of its comprehensions fit, and what is in them is one
-- layer less deep, as all else in it
unfoldable pub ExprFitsTo : ℕ → Expr → Type 0
ExprFitsTo zero x = ⊥
ExprFitsTo (suc layers) x = ExprParts (ExprFitsTo layers) (out-Expr x) × VariableParts (TargetFits (ExprFitsTo layers) max_layers) (out-Expr x)

-- ---- statements

-- an expression is at most `max_layers` layers deep, with all in it
abbrev pub ExprFits : Expr → Type 0
ExprFits x = ExprFitsTo max_layers x

-- a target is at most `max_layers` layers deep, and so is each expression in it
abbrev pub PlaceFits : TargetExpr → Type 0
PlaceFits t = TargetFits ExprFits max_layers t

-- the target and the expression of a small statement fit, where it has them
abbrev pub KindFits : SmallKind → Type 0
KindFits (small.Expr x) = ExprFits x
KindFits (small.Assign t x) = PlaceFits t × ExprFits x
KindFits (small.Augment t o x) = PlaceFits t × ExprFits x
KindFits (small.Return x) = OptionalParts ExprFits x
KindFits _ = Unit {0}

-- the target and the expression of a small statement fit, whatever its line
abbrev pub SmallFits : SmallStmt → Type 0
SmallFits x = KindFits x.kind

-- the default of a parameter fits, where it has one
abbrev pub ParameterFits : Parameter → Type 0
ParameterFits (parameter.Default n x) = ExprFits x
ParameterFits _ = Unit {0}

-- the condition of a branch fits, and `inner` holds of each statement of its block
abbrev pub BranchFits : (Stmt → Type 0) → Branch → Type 0
BranchFits inner b = ExprFits (out-Branch b).condition × AllByRecursion inner (out-Branch b).block

-- the expressions, targets and defaults of a statement fit, and `inner` holds of each statement in it
abbrev pub StmtLayerFits : (Stmt → Type 0) → StmtLayer → Type 0
StmtLayerFits inner (Stmt-F.Simple xs) = AllByRecursion SmallFits xs
StmtLayerFits inner (Stmt-F.If bs otherwise) = AllByRecursion (BranchFits inner) bs × AllByRecursion inner otherwise
StmtLayerFits inner (Stmt-F.For t x body) = PlaceFits t × ExprFits x × AllByRecursion inner body
StmtLayerFits inner (Stmt-F.Def n ps body) = AllByRecursion ParameterFits ps × AllByRecursion inner body

-- a statement is at most this many layers deep, and the expressions and targets in it fit
unfoldable pub StmtFits : ℕ → Stmt → Type 0
StmtFits zero x = ⊥
StmtFits (suc layers) x = StmtLayerFits (StmtFits layers) (out-Stmt x)

-- ---- files

-- each statement of the function's body is at most `max_layers` layers deep, with all in it
unfoldable pub FunctionFits : Function → Type 0
FunctionFits d = AllByRecursion (StmtFits max_layers) d.body

-- outside functions: the small statements of a line fit, or the defaults of a `def`
abbrev pub OutsideFits : Outside → Type 0
OutsideFits (outside.Simple xs) = AllByRecursion SmallFits xs
OutsideFits (outside.Def d) = AllByRecursion ExprFits d.defaults

-- what stands on a line outside functions fits
abbrev pub LineFits : FileLine → Type 0
LineFits l = OutsideFits l.statement

-- all trees of a file
abbrev pub FileFits : ResolvedFile → Type 0
FileFits file = AllByRecursion LineFits file.statements × AllByRecursion FunctionFits file.functions
