-- Trees without anything that ends an evaluation by itself: they are no deeper than the layers that are looked at, and
-- none of them has what the language leaves out, a `for` over another variable than a name, an augmented assignment to a
-- tuple or list, or a name that refers to nothing.
use Rattle.std.specs.Prelude.{ℕ, zero, suc}
use Rattle.std.specs.List.{AllByRecursion}
use Rattle.bq_parse_grammar.specs.declared.tree.Argument.TheOpen.{Expr-F, Suffix-F, TargetExpr-F}
use Rattle.bq_parse_grammar.specs.declared.tree.Branch.{Branch, out-Branch}
use Rattle.bq_parse_grammar.specs.declared.tree.Expr.{Expr, out-Expr}
use Rattle.bq_parse_grammar.specs.declared.tree.SmallKind.{SmallKind}
use Rattle.bq_parse_grammar.specs.declared.tree.SmallKind.TheVariants as small
use Rattle.bq_parse_grammar.specs.declared.tree.SmallStmt.{SmallStmt}
use Rattle.bq_parse_grammar.specs.declared.tree.Stmt.{Stmt, out-Stmt}
use Rattle.bq_parse_grammar.specs.declared.tree.Stmt.TheOpen.{Stmt-F}
use Rattle.bq_parse_grammar.specs.declared.tree.Suffix.{Suffix, out-Suffix}
use Rattle.bq_parse_grammar.specs.declared.tree.TargetExpr.{TargetExpr, out-TargetExpr}
use Rattle.bq_parse_grammar.specs.Targets.{ExprLayer, SuffixLayer}
use Rattle.bq_resolve_scope.specs.declared.file.FileLine.{FileLine}
use Rattle.bq_resolve_scope.specs.declared.file.Formal.{Formal}
use Rattle.bq_resolve_scope.specs.declared.file.Formal.TheVariants as formal
use Rattle.bq_resolve_scope.specs.declared.file.Function.{Function}
use Rattle.bq_resolve_scope.specs.declared.file.Outside.{Outside}
use Rattle.bq_resolve_scope.specs.declared.file.Outside.TheVariants as outside
use Rattle.bq_resolve_scope.specs.declared.file.ResolvedFile.{ResolvedFile}
use Rattle.bq_resolve_scope.specs.Names.{TargetLayer, max_layers}
use Rattle.bq_eval_spec.specs.Trees.{StmtLayer}
use Rattle.bq_eval_laws.specs.Layers.{OptionalParts, ExprParts, TargetParts}
use Rattle.bq_eval_laws.specs.Fits.{IndexParts, VariableParts}
use Rattle.bq_eval_laws.specs.Referents.{RefersToAny, RefersToPlace}

-- ---- targets

-- a name that is bound refers to a place
abbrev pub NameIsPlace : TargetLayer → Type 0
NameIsPlace (TargetExpr-F.TargetExpr::Name n) = RefersToPlace n.referent
NameIsPlace _ = Unit {0}

-- a target is at most this many layers deep, and `E` holds of each expression in it
unfoldable pub TargetIsSoundTo : (Expr → Type 0) → ℕ → TargetExpr → Type 0
TargetIsSoundTo E zero t = ⊥
TargetIsSoundTo E (suc layers) t = TargetParts (TargetIsSoundTo E layers) (out-TargetExpr t) × IndexParts E (out-TargetExpr t) × NameIsPlace (out-TargetExpr t)

-- the variables of a `for` are names: no part of them has an expression
abbrev pub NoExpr : Expr → Type 0
NoExpr x = ⊥

-- the variables of a `for`: a name that refers to a place, or a tuple or list of such targets
abbrev pub AreNames : TargetExpr → Type 0
AreNames t = TargetIsSoundTo NoExpr max_layers t

-- what is augmented is a name or `x[i]`
abbrev pub IsOneLayer : TargetLayer → Type 0
IsOneLayer (TargetExpr-F.TargetExpr::Tuple ts) = ⊥
IsOneLayer (TargetExpr-F.TargetExpr::List ts) = ⊥
IsOneLayer _ = Unit {0}

-- what is augmented is no tuple and no list
abbrev pub IsOne : TargetExpr → Type 0
IsOne t = IsOneLayer (out-TargetExpr t)

-- ---- expressions

-- `.name` occurs only before a call
abbrev pub SuffixIsKeptLayer : SuffixLayer → Type 0
SuffixIsKeptLayer (Suffix-F.Attribute name) = ⊥
SuffixIsKeptLayer _ = Unit {0}

-- what is done to an operand is no `.name` without a call
abbrev pub SuffixIsKept : Suffix → Type 0
SuffixIsKept x = SuffixIsKeptLayer (out-Suffix x)

-- a name refers to something, and nothing is there that the language leaves out
abbrev pub IsKept : ExprLayer → Type 0
IsKept (Expr-F.Expr::Name n) = RefersToAny n.referent
IsKept Expr-F.Lambda = ⊥
IsKept (Expr-F.Primary x xs) = AllByRecursion SuffixIsKept xs
IsKept _ = Unit {0}

-- an expression is at most this many layers deep, and it and all in it is sound
unfoldable pub ExprIsSoundTo : ℕ → Expr → Type 0
ExprIsSoundTo zero x = ⊥
ExprIsSoundTo (suc layers) x = ExprParts (ExprIsSoundTo layers) (out-Expr x) × VariableParts AreNames (out-Expr x) × IsKept (out-Expr x)

-- an expression is at most `max_layers` layers deep, and it and all in it is sound
abbrev pub ExprIsSound : Expr → Type 0
ExprIsSound x = ExprIsSoundTo max_layers x

-- a target is at most `max_layers` layers deep, its names refer to places, and each expression in it is sound
abbrev pub PlaceIsSound : TargetExpr → Type 0
PlaceIsSound t = TargetIsSoundTo ExprIsSound max_layers t

-- ---- statements

-- the target and the expression of a small statement are sound; what is augmented is no tuple and no list
abbrev pub KindIsSound : SmallKind → Type 0
KindIsSound (small.Expr x) = ExprIsSound x
KindIsSound (small.Assign t x) = PlaceIsSound t × ExprIsSound x
KindIsSound (small.Augment t o x) = PlaceIsSound t × IsOne t × ExprIsSound x
KindIsSound (small.Return x) = OptionalParts ExprIsSound x
KindIsSound _ = Unit {0}

-- the target and the expression of a small statement are sound, whatever its line
abbrev pub SmallIsSound : SmallStmt → Type 0
SmallIsSound x = KindIsSound x.kind

-- the condition of a branch is sound, and `inner` holds of each statement of its block
abbrev pub BranchIsSound : (Stmt → Type 0) → Branch → Type 0
BranchIsSound inner b = ExprIsSound (out-Branch b).condition × AllByRecursion inner (out-Branch b).block

-- in a function there is no `def`
abbrev pub StmtLayerIsSound : (Stmt → Type 0) → StmtLayer → Type 0
StmtLayerIsSound inner (Stmt-F.Simple xs) = AllByRecursion SmallIsSound xs
StmtLayerIsSound inner (Stmt-F.If bs otherwise) = AllByRecursion (BranchIsSound inner) bs × AllByRecursion inner otherwise
StmtLayerIsSound inner (Stmt-F.For t x body) = AreNames t × ExprIsSound x × AllByRecursion inner body
StmtLayerIsSound inner (Stmt-F.Def n ps body) = ⊥

-- a statement of a function is at most this many layers deep, and all in it is sound
unfoldable pub StmtIsSound : ℕ → Stmt → Type 0
StmtIsSound zero x = ⊥
StmtIsSound (suc layers) x = StmtLayerIsSound (StmtIsSound layers) (out-Stmt x)

-- ---- files

-- the name of a parameter refers to its slot
abbrev pub FormalIsSound : Formal → Type 0
FormalIsSound (formal.Plain n) = RefersToPlace n.referent
FormalIsSound (formal.Default n) = RefersToPlace n.referent
FormalIsSound formal.BareStar = Unit {0}
FormalIsSound (formal.Star n) = RefersToPlace n.referent
FormalIsSound (formal.StarStar n) = RefersToPlace n.referent

-- the parameters of a function refer to their slots, and each statement of its body is sound
unfoldable pub FunctionIsSound : Function → Type 0
FunctionIsSound d = AllByRecursion FormalIsSound d.parameters × AllByRecursion (StmtIsSound max_layers) d.body

-- outside functions: small statements are sound, or a `def` has a place for its name and sound defaults
abbrev pub OutsideIsSound : Outside → Type 0
OutsideIsSound (outside.Simple xs) = AllByRecursion SmallIsSound xs
OutsideIsSound (outside.Def d) = RefersToPlace d.name.referent × AllByRecursion ExprIsSound d.defaults

-- what stands on a line outside functions is sound
abbrev pub LineIsSound : FileLine → Type 0
LineIsSound l = OutsideIsSound l.statement

-- all trees of a file
abbrev pub FileIsSound : ResolvedFile → Type 0
FileIsSound file = AllByRecursion LineIsSound file.statements × AllByRecursion FunctionIsSound file.functions
