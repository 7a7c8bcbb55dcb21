-- What a tree resolves to, as a relation between it and the resolved tree: a case for each form. A use of a name refers to what the
-- name stands for among the blocks around it (`use_of`; `StandsFor` of bq_resolve_scope says it in words); all else of the resolved tree is
-- that of the tree, in its order. The slots of a block begin anywhere; that they fit, and are a block's own, is said by other laws.
use Rattle.std.specs.Prelude.{◌≡◌, ℕ, zero, suc, ◌+◌, List, [], ◌∷◌, ◌++◌, length, Option, Some, None, Ok}
use Rattle.std.specs.List.{flat_map}
use Rattle.bq_parse_grammar.specs.declared.tree.Argument.TheOpen.{Expr-F, Suffix-F, Argument-F, Clause-F, TargetExpr-F}
use Rattle.bq_parse_grammar.specs.declared.tree.Argument.{Argument, out-Argument}
use Rattle.bq_parse_grammar.specs.declared.tree.Branch.{Branch, out-Branch, roll-Branch}
use Rattle.bq_parse_grammar.specs.declared.tree.Choice.{Choice, out-Choice, roll-Choice}
use Rattle.bq_parse_grammar.specs.declared.tree.Clause.{Clause, out-Clause}
use Rattle.bq_parse_grammar.specs.declared.tree.Expr.{Expr, out-Expr}
use Rattle.bq_parse_grammar.specs.declared.tree.Identifier.{Identifier}
use Rattle.bq_parse_grammar.specs.declared.tree.Load.{Load}
use Rattle.bq_parse_grammar.specs.declared.tree.LoadClause.{LoadClause}
use Rattle.bq_parse_grammar.specs.declared.tree.Operation.{Operation, out-Operation, roll-Operation}
use Rattle.bq_parse_grammar.specs.declared.tree.Pair.{Pair, out-Pair, roll-Pair}
use Rattle.bq_parse_grammar.specs.declared.tree.Parameter.{Parameter}
use Rattle.bq_parse_grammar.specs.declared.tree.Parameter.TheVariants as parameter
use Rattle.bq_parse_grammar.specs.declared.tree.SmallKind.{SmallKind}
use Rattle.bq_parse_grammar.specs.declared.tree.SmallKind.TheVariants as small
use Rattle.bq_parse_grammar.specs.declared.tree.SmallStmt.{SmallStmt}
use Rattle.bq_parse_grammar.specs.declared.tree.Stmt.{Stmt, out-Stmt}
use Rattle.bq_parse_grammar.specs.declared.tree.Stmt.TheOpen.{Stmt-F}
use Rattle.bq_parse_grammar.specs.declared.tree.Suffix.{Suffix, out-Suffix}
use Rattle.bq_parse_grammar.specs.declared.tree.TargetExpr.{TargetExpr, out-TargetExpr}
use Rattle.bq_parse_grammar.specs.declared.tree.TopLevel.{TopLevel}
use Rattle.bq_parse_grammar.specs.Targets.{ExprLayer, SuffixLayer}
use Rattle.bq_parse_grammar.specs.declared.tree.Referent.{Referent}
use Rattle.bq_parse_grammar.specs.declared.tree.Referent.TheVariants as b
use Rattle.bq_parse_grammar.specs.declared.tree.ComprehensionFrame.{ComprehensionFrame}
use Rattle.bq_parse_grammar.specs.declared.tree.ComprehensionFrame.TheVariants as frame
use Rattle.bq_parse_grammar.specs.declared.tree.Expr.TheVariants as e
use Rattle.bq_parse_grammar.specs.declared.tree.Argument.TheVariants as argument
use Rattle.bq_parse_grammar.specs.declared.tree.Clause.TheVariants as clause
use Rattle.bq_resolve_scope.specs.declared.file.Function.{Function}
use Rattle.bq_resolve_scope.specs.declared.file.Formal.{Formal}
use Rattle.bq_resolve_scope.specs.declared.file.Formal.TheVariants as formal
use Rattle.bq_parse_grammar.specs.declared.tree.Stmt.TheVariants as stmt
use Rattle.bq_parse_grammar.specs.declared.tree.Suffix.TheVariants as suffix
use Rattle.bq_parse_grammar.specs.declared.tree.TargetExpr.TheVariants as target
use Rattle.bq_resolve_scope.specs.declared.file.FileLine.{FileLine}
use Rattle.bq_resolve_scope.specs.declared.file.Outside.{Outside}
use Rattle.bq_resolve_scope.specs.declared.file.Outside.TheVariants as top
use Rattle.bq_resolve_scope.specs.declared.loads.LoadStmt.{LoadStmt}
use Rattle.bq_resolve_scope.specs.declared.loads.LoadedSymbol.{LoadedSymbol}
use Rattle.bq_resolve_scope.specs.declared.file.ResolvedFile.{ResolvedFile}
use Rattle.bq_predeclared.specs.declared.predeclared.Predeclared.{Predeclared}
use Rattle.bq_resolve_scope.specs.Universe.{UniverseParts, member_named}
use Rattle.bq_resolve_scope.specs.Names.{TargetLayer, ClauseLayer, max_layers, place_among, comprehension_names, function_names, global_names}
use Rattle.bq_resolve_scope.specs.Scope.{BlockParts, FileParts, use_of}
use Rattle.bq_resolve_scope.specs.Expressions.{refer, place_of, MemberCall, member_call, namespace_at}
use Rattle.bq_resolve_scope.specs.Files.{file_names, resolved}

-- the one to the other, in their order
abbrev pub InOrder : {A B : Type 0} → (A → B → Type 0) → List A → List B → Type 0
InOrder R [] [] = Unit {0}
InOrder R (x ∷ xs) (y ∷ ys) = R x y × InOrder R xs ys
InOrder R _ _ = ⊥

-- both are missing, or the one to the other
abbrev pub Maybe : {A B : Type 0} → (A → B → Type 0) → Option A → Option B → Type 0
Maybe R None None = Unit {0}
Maybe R (Some x) (Some y) = R x y
Maybe R _ _ = ⊥

-- outside functions a comprehension has a frame of its own, in which its slots begin at 0, and else its slots are in the frame around it
abbrev pub frame_is : List BlockParts → ℕ → ComprehensionFrame → Type 0
frame_is [] base own = (slots : ℕ) × (base ≡ 0) × (own ≡ frame.Own slots)
frame_is (block ∷ blocks) base own = own ≡ frame.Shared

-- a parameter, whose name has this slot
abbrev pub formal_at : ℕ → Parameter → Formal
formal_at slot (parameter.Plain n) = formal.Plain (refer n (b.Local slot))
formal_at slot (parameter.Default n x) = formal.Default (refer n (b.Local slot))
formal_at slot parameter.BareStar = formal.BareStar
formal_at slot (parameter.Star n) = formal.Star (refer n (b.Local slot))
formal_at slot (parameter.StarStar n) = formal.StarStar (refer n (b.Local slot))

-- `*` has no slot
abbrev pub slot_after : ℕ → Parameter → ℕ
slot_after slot parameter.BareStar = slot
slot_after slot _ = slot + 1

-- parameters, in the slots from this one on
abbrev pub formals : ℕ → List Parameter → List Formal
formals slot [] = []
formals slot (p ∷ ps) = formal_at slot p ∷ formals (slot_after slot p) ps

-- the default of a parameter, if it has one
abbrev pub default_of : Parameter → List Expr
default_of (parameter.Default n x) = x ∷ []
default_of _ = []

module _ (file : FileParts) where
  -- ---- expressions: `Is` relates those inside

  module _ (Is : List BlockParts → Expr → Expr → Type 0) where
    -- a target, by its form: its names are slots or globals
    abbrev pub target_is_by : (TargetExpr → TargetExpr → Type 0) → List BlockParts → TargetLayer → TargetExpr → Type 0
    target_is_by inner blocks (TargetExpr-F.TargetExpr::Name n) z = (x : Referent) × (place_of (use_of file blocks n.name) ≡ Some x) × (z ≡ target.Name (refer n x))
    target_is_by inner blocks (TargetExpr-F.TargetExpr::Index x i) z = (y : Expr) × (j : Expr) × Is blocks x y × Is blocks i j × (z ≡ target.Index y j)
    target_is_by inner blocks (TargetExpr-F.TargetExpr::Tuple ts) z = (us : List TargetExpr) × InOrder inner ts us × (z ≡ target.Tuple us)
    target_is_by inner blocks (TargetExpr-F.TargetExpr::List ts) z = (us : List TargetExpr) × InOrder inner ts us × (z ≡ target.List us)

    -- a target of at most this many layers
    unfoldable pub TargetTo : ℕ → List BlockParts → TargetExpr → TargetExpr → Type 0
    TargetTo zero blocks t z = ⊥
    TargetTo (suc layers) blocks t z = target_is_by (TargetTo layers blocks) blocks (out-TargetExpr t) z

    -- a pair of a dict
    abbrev pub PairIs : List BlockParts → Pair → Pair → Type 0
    PairIs blocks p z = (k : Expr) × (v : Expr) × Is blocks (out-Pair p).key k × Is blocks (out-Pair p).value v × (z ≡ roll-Pair (record { key = k; value = v }))

    -- an operator and its right operand
    abbrev pub OperationIs : List BlockParts → Operation → Operation → Type 0
    OperationIs blocks o z = (x : Expr) × Is blocks (out-Operation o).operand x × (z ≡ roll-Operation (record { operator = (out-Operation o).operator; operand = x }))

    -- `value if condition`
    abbrev pub ChoiceIs : List BlockParts → Choice → Choice → Type 0
    ChoiceIs blocks o z =
        (v : Expr) × (x : Expr) × Is blocks (out-Choice o).value v × Is blocks (out-Choice o).condition x × (z ≡ roll-Choice (record { value = v; condition = x }))

    -- an argument, by its form
    abbrev pub argument_is_by : List BlockParts → Argument-F Argument Clause Expr Suffix TargetExpr Choice Operation Pair → Argument → Type 0
    argument_is_by blocks (Argument-F.Positional x) z = (y : Expr) × Is blocks x y × (z ≡ argument.Positional y)
    argument_is_by blocks (Argument-F.Named name x) z = (y : Expr) × Is blocks x y × (z ≡ argument.Named name y)
    argument_is_by blocks (Argument-F.Star x) z = (y : Expr) × Is blocks x y × (z ≡ argument.Star y)
    argument_is_by blocks (Argument-F.StarStar x) z = (y : Expr) × Is blocks x y × (z ≡ argument.StarStar y)

    -- the arguments of a call
    abbrev pub ArgumentsAre : List BlockParts → List Argument → List Argument → Type 0
    ArgumentsAre blocks xs ys = InOrder (λ x y. argument_is_by blocks (out-Argument x) y) xs ys

    -- a suffix, by its form
    abbrev pub suffix_is_by : List BlockParts → SuffixLayer → Suffix → Type 0
    suffix_is_by blocks (Suffix-F.Call xs) z = (ys : List Argument) × ArgumentsAre blocks xs ys × (z ≡ suffix.Call ys)
    suffix_is_by blocks (Suffix-F.Method m xs) z = (ys : List Argument) × ArgumentsAre blocks xs ys × (z ≡ suffix.Method m ys)
    suffix_is_by blocks (Suffix-F.Attribute m) z = z ≡ suffix.Attribute m
    suffix_is_by blocks (Suffix-F.Suffix::Index i) z = (j : Expr) × Is blocks i j × (z ≡ suffix.Index j)
    suffix_is_by blocks (Suffix-F.Slice i j k) z =
        (x : Option Expr) × (y : Option Expr) × (w : Option Expr) × Maybe (Is blocks) i x × Maybe (Is blocks) j y × Maybe (Is blocks) k w × (z ≡ suffix.Slice x y w)

    -- what is done to an operand
    abbrev pub SuffixesAre : List BlockParts → List Suffix → List Suffix → Type 0
    SuffixesAre blocks ss ts = InOrder (λ s t. suffix_is_by blocks (out-Suffix s) t) ss ts

    -- `native.name(arguments)` calls the build function or rule, `attr.name(arguments)` the function that makes an attribute: both words
    -- refer to it, and what is done to its result comes after
    abbrev pub primary_is_by : List BlockParts → Expr → List Suffix → Option MemberCall → Expr → Type 0
    primary_is_by blocks x ss None z = (y : Expr) × (ts : List Suffix) × Is blocks x y × SuffixesAre blocks ss ts × (z ≡ e.Primary y ts)
    primary_is_by blocks x ss (Some (space, m, xs, rest)) z =
        (p : Predeclared) × (ys : List Argument) × (ts : List Suffix) × (member_named space.0 file.universe.rules m.name ≡ Some p) × ArgumentsAre blocks xs ys × SuffixesAre blocks rest ts
        × (z ≡ e.Primary (e.Name (refer space.1 (b.Member p))) (suffix.Method (refer m (b.Member p)) ys ∷ ts))

    -- an iterable stands among `round`, all else of a clause among `blocks`
    abbrev pub clause_is_by : List BlockParts → List BlockParts → ClauseLayer → Clause → Type 0
    clause_is_by round blocks (Clause-F.For t x) z = (u : TargetExpr) × (y : Expr) × TargetTo max_layers blocks t u × Is round x y × (z ≡ clause.For u y)
    clause_is_by round blocks (Clause-F.If x) z = (y : Expr) × Is blocks x y × (z ≡ clause.If y)

    -- the first iterable stands outside the comprehension, all others inside it
    abbrev pub ClausesAre : List BlockParts → List BlockParts → List Clause → List Clause → Type 0
    ClausesAre round blocks (x ∷ xs) (y ∷ ys) = clause_is_by round blocks (out-Clause x) y × InOrder (λ z w. clause_is_by blocks blocks (out-Clause z) w) xs ys
    ClausesAre round blocks [] [] = Unit {0}
    ClausesAre round blocks _ _ = ⊥

    -- its element, its clauses and its frame: the element stands in a block of its names
    abbrev pub comprehension_is : {A : Type 0} → (List BlockParts → A → Type 0) → (A → List Clause → ComprehensionFrame → Expr) → List BlockParts → List Clause → Expr → Type 0
    comprehension_is {A = A} Element make blocks xs z =
        (block : BlockParts) × (x : A) × (ys : List Clause) × (own : ComprehensionFrame) × (block.names ≡ comprehension_names xs) × frame_is blocks block.base own
        × Element (block ∷ blocks) x × ClausesAre blocks (block ∷ blocks) xs ys × (z ≡ make x ys own)

    -- an expression, by its form
    abbrev pub expr_is_by : List BlockParts → ExprLayer → Expr → Type 0
    expr_is_by blocks (Expr-F.Expr::Name n) z = (x : Referent) × (use_of file blocks n.name ≡ Some x) × (z ≡ e.Name (refer n x))
    expr_is_by blocks (Expr-F.Int i) z = z ≡ e.Int i
    expr_is_by blocks (Expr-F.String s) z = z ≡ e.String s
    expr_is_by blocks (Expr-F.Expr::List xs) z = (ys : List Expr) × InOrder (Is blocks) xs ys × (z ≡ e.List ys)
    expr_is_by blocks (Expr-F.Expr::Tuple xs) z = (ys : List Expr) × InOrder (Is blocks) xs ys × (z ≡ e.Tuple ys)
    expr_is_by blocks (Expr-F.Dict ps) z = (qs : List Pair) × InOrder (PairIs blocks) ps qs × (z ≡ e.Dict qs)
    expr_is_by blocks (Expr-F.ListComprehension x xs own) z = comprehension_is (λ bs y. Is bs x y) e.ListComprehension blocks xs z
    expr_is_by blocks (Expr-F.DictComprehension p xs own) z = comprehension_is (λ bs q. PairIs bs p q) e.DictComprehension blocks xs z
    expr_is_by blocks (Expr-F.Primary x ss) z = primary_is_by blocks x ss (member_call (namespace_at file blocks (out-Expr x)) ss) z
    expr_is_by blocks (Expr-F.Unary os x) z = (y : Expr) × Is blocks x y × (z ≡ e.Unary os y)
    expr_is_by blocks (Expr-F.Binary x os) z = (y : Expr) × (ps : List Operation) × Is blocks x y × InOrder (OperationIs blocks) os ps × (z ≡ e.Binary y ps)
    expr_is_by blocks (Expr-F.Compare x o w) z = (y : Expr) × (v : Expr) × Is blocks x y × Is blocks w v × (z ≡ e.Compare y o v)
    expr_is_by blocks (Expr-F.Conditional xs w) z = (ys : List Choice) × (v : Expr) × InOrder (ChoiceIs blocks) xs ys × Is blocks w v × (z ≡ e.Conditional ys v)
    expr_is_by blocks Expr-F.Lambda z = z ≡ e.Lambda

  -- an expression of at most this many layers
  unfoldable pub ExprTo : ℕ → List BlockParts → Expr → Expr → Type 0
  ExprTo zero blocks x z = ⊥
  ExprTo (suc layers) blocks x z = expr_is_by (ExprTo layers) blocks (out-Expr x) z

  -- an expression among these blocks
  unfoldable pub ExprIs : List BlockParts → Expr → Expr → Type 0
  ExprIs blocks x z = ExprTo max_layers blocks x z

  -- a target among these blocks
  unfoldable pub TargetIs : List BlockParts → TargetExpr → TargetExpr → Type 0
  TargetIs blocks t z = TargetTo (ExprTo max_layers) max_layers blocks t z

  -- ---- statements

  -- a small statement, by its form; a load stays as it is
  abbrev pub kind_is : List BlockParts → SmallKind → SmallKind → Type 0
  kind_is blocks (small.Expr x) z = (y : Expr) × ExprIs blocks x y × (z ≡ small.Expr y)
  kind_is blocks (small.Assign t x) z = (u : TargetExpr) × (y : Expr) × TargetIs blocks t u × ExprIs blocks x y × (z ≡ small.Assign u y)
  kind_is blocks (small.Augment t o x) z = (u : TargetExpr) × (y : Expr) × TargetIs blocks t u × ExprIs blocks x y × (z ≡ small.Augment u o y)
  kind_is blocks (small.Return x) z = (y : Option Expr) × Maybe (ExprIs blocks) x y × (z ≡ small.Return y)
  kind_is blocks small.Break z = z ≡ small.Break
  kind_is blocks small.Continue z = z ≡ small.Continue
  kind_is blocks small.Pass z = z ≡ small.Pass
  kind_is blocks (small.Load l) z = z ≡ small.Load l

  -- a small statement, on its line
  unfoldable pub SmallIs : List BlockParts → SmallStmt → SmallStmt → Type 0
  SmallIs blocks x z = (k : SmallKind) × kind_is blocks x.kind k × (z ≡ record x { kind = k })

  -- a condition and its block
  unfoldable pub BranchIs : (Stmt → Stmt → Type 0) → List BlockParts → Branch → Branch → Type 0
  BranchIs inner blocks b z = (x : Expr) × (ys : List Stmt) × ExprIs blocks (out-Branch b).condition x × InOrder inner (out-Branch b).block ys × (z ≡ roll-Branch (record { condition = x; block = ys }))

  -- a statement of a function, by its form; no `def` stands in one
  abbrev pub stmt_is_by : (Stmt → Stmt → Type 0) → List BlockParts → Stmt-F Stmt Branch → Stmt → Type 0
  stmt_is_by inner blocks (Stmt-F.Simple xs) z = (ys : List SmallStmt) × InOrder (SmallIs blocks) xs ys × (z ≡ stmt.Simple ys)
  stmt_is_by inner blocks (Stmt-F.If bs zs) z = (xs : List Branch) × (ys : List Stmt) × InOrder (BranchIs inner blocks) bs xs × InOrder inner zs ys × (z ≡ stmt.If xs ys)
  stmt_is_by inner blocks (Stmt-F.For t x body) z =
      (u : TargetExpr) × (y : Expr) × (ys : List Stmt) × TargetIs blocks t u × ExprIs blocks x y × InOrder inner body ys × (z ≡ stmt.For u y ys)
  stmt_is_by inner blocks (Stmt-F.Def n ps body) z = ⊥

  -- a statement of a function, of at most this many layers
  unfoldable pub StmtTo : ℕ → List BlockParts → Stmt → Stmt → Type 0
  StmtTo zero blocks x z = ⊥
  StmtTo (suc layers) blocks x z = stmt_is_by (StmtTo layers blocks) blocks (out-Stmt x) z

  -- ---- functions

  -- its statements stand in a block of its names, which have the first slots
  unfoldable pub FunctionIs : Identifier → List Parameter → List Stmt → Function → Type 0
  FunctionIs n ps body z =
      (slots : ℕ) × (ys : List Stmt) × InOrder (StmtTo max_layers (record { base = 0; names = function_names ps body } ∷ [])) body ys
      × (z ≡ record { name = n.name; parameters = formals 0 ps; slots = slots; body = ys })

  -- ---- what stands outside functions: `k` functions stand before it, and it has these functions and loads

  -- a clause of a load, with the place of the global of its name, if there is one
  abbrev pub SymbolIs : LoadClause → LoadedSymbol → Type 0
  SymbolIs x z = z ≡ record { local = x.local.name; symbol = x.symbol; global = place_among x.local.name file.globals }

  -- a load, on its line
  unfoldable pub LoadIs : ℕ → Load → LoadStmt → Type 0
  LoadIs line l z = (xs : List LoadedSymbol) × InOrder SymbolIs l.clauses xs × (z ≡ record { label = l.label; line = line; clauses = xs })

  -- the load that a small statement is, if it is one
  abbrev pub loads_are : ℕ → SmallKind → List LoadStmt → Type 0
  loads_are line (small.Load l) ls = (z : LoadStmt) × LoadIs line l z × (ls ≡ z ∷ [])
  loads_are line _ ls = ls ≡ []

  -- a small statement outside functions
  unfoldable pub OuterIs : ℕ → SmallStmt → SmallStmt → List Function → List LoadStmt → Type 0
  OuterIs k x z fs ls = SmallIs [] x z × (fs ≡ []) × loads_are x.line x.kind ls

-- one after the other, each after the functions of those before it, and all functions and loads of them
abbrev pub InTurn : {A B : Type 0} → (ℕ → A → B → List Function → List LoadStmt → Type 0) → ℕ → List A → List B → List Function → List LoadStmt → Type 0
InTurn R k [] ys fs ls = (ys ≡ []) × (fs ≡ []) × (ls ≡ [])
InTurn {B = B} R k (x ∷ xs) ys fs ls =
    (y : B) × (zs : List B) × (f : List Function) × (gs : List Function) × (l : List LoadStmt) × (ms : List LoadStmt)
    × R k x y f l × InTurn R (k + length f) xs zs gs ms × (ys ≡ y ∷ zs) × (fs ≡ f ++ gs) × (ls ≡ l ++ ms)

module _ (file : FileParts) where
  -- what stands on a line outside functions, by its form: a `def` has one function, the next of the file
  abbrev pub file_stmt_is : ℕ → Stmt-F Stmt Branch → Outside → List Function → List LoadStmt → Type 0
  file_stmt_is k (Stmt-F.Simple xs) z fs ls = (ys : List SmallStmt) × InTurn (OuterIs file) k xs ys fs ls × (z ≡ top.Simple ys)
  file_stmt_is k (Stmt-F.If bs zs) z fs ls = ⊥
  file_stmt_is k (Stmt-F.For t x body) z fs ls = ⊥
  file_stmt_is k (Stmt-F.Def n ps body) z fs ls =
      (x : Referent) × (ds : List Expr) × (f : Function) × (place_of (use_of file [] n.name) ≡ Some x) × InOrder (ExprIs file []) (flat_map default_of ps) ds × FunctionIs file n ps body f
      × (z ≡ top.Def (record { name = refer n x; function = k; defaults = ds })) × (fs ≡ f ∷ []) × (ls ≡ [])

  -- a line outside functions
  unfoldable pub TopLevelIs : ℕ → TopLevel → FileLine → List Function → List LoadStmt → Type 0
  TopLevelIs k t z fs ls = (x : Outside) × file_stmt_is k (out-Stmt t.statement) x fs ls × (z ≡ record { line = t.line; statement = x })

-- A file that resolves has the statements, functions and loads that it is written with, each use of a name with what it stands for,
-- and the names that it binds.
abbrev pub FilesResolveToThemselves : Type 0
FilesResolveToThemselves = (universe : UniverseParts) (ts : List TopLevel) (r : ResolvedFile) → resolved universe ts ≡ Ok r
    → InTurn (TopLevelIs (file_names universe ts)) 0 ts r.statements r.functions r.loads × (r.globals ≡ global_names ts)
