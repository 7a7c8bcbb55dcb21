-- What is known of each part: whatever is around it, and however many layers of it are looked at, its faults name lines.
use Rattle.std.proofs.Common.{ℕ, zero, suc, ◌≤◌, List, [], ◌∷◌, Bool}
use Rattle.std.specs.List.{AllByRecursion}
use Rattle.bq_base.specs.declared.fault.NameFault.{NameFault}
use Rattle.bq_base.specs.declared.fault.Fault.{Fault}
use Rattle.bq_source.specs.declared.token.TokenKind.{TokenKind}
use Rattle.bq_source.specs.declared.token.TokenKind.TheVariants as k
use Rattle.bq_parse_grammar.specs.declared.tree.Argument.TheOpen.{Suffix-F}
use Rattle.bq_parse_grammar.specs.declared.tree.Argument.{Argument, out-Argument}
use Rattle.bq_parse_grammar.specs.declared.tree.Branch.{Branch}
use Rattle.bq_parse_grammar.specs.declared.tree.Choice.{Choice}
use Rattle.bq_parse_grammar.specs.declared.tree.Clause.{Clause, out-Clause}
use Rattle.bq_parse_grammar.specs.declared.tree.Expr.{Expr, out-Expr}
use Rattle.bq_parse_grammar.specs.declared.tree.LoadClause.{LoadClause}
use Rattle.bq_parse_grammar.specs.declared.tree.Operation.{Operation}
use Rattle.bq_parse_grammar.specs.declared.tree.Pair.{Pair}
use Rattle.bq_parse_grammar.specs.declared.tree.Parameter.{Parameter}
use Rattle.bq_parse_grammar.specs.declared.tree.SmallKind.{SmallKind}
use Rattle.bq_parse_grammar.specs.declared.tree.SmallKind.TheVariants as small
use Rattle.bq_parse_grammar.specs.declared.tree.SmallStmt.{SmallStmt}
use Rattle.bq_parse_grammar.specs.declared.tree.Stmt.{Stmt, out-Stmt}
use Rattle.bq_parse_grammar.specs.declared.tree.Stmt.TheOpen.{Stmt-F}
use Rattle.bq_parse_grammar.specs.declared.tree.Suffix.{Suffix, out-Suffix}
use Rattle.bq_parse_grammar.specs.declared.tree.TargetExpr.{TargetExpr, out-TargetExpr}
use Rattle.bq_parse_grammar.specs.Literals.{name_line}
use Rattle.bq_parse_laws.specs.Parts as parts
use Rattle.bq_parse_laws.specs.Parts.{Part, row, listed, commas, ExprLayer, SuffixLayer, TargetLayer}
use Rattle.bq_resolve_scope.specs.Names.{Name}
use Rattle.bq_resolve_scope.specs.Scope.{FileParts}
use Rattle.bq_resolve_laws.specs.Violations.{Around, Before, in_target_by, in_target_to, in_pair, in_operation, in_choice, in_argument_by, in_suffix_by, in_clause_by, in_expr_by, in_expr_to, in_expr, in_small_by, in_branch, in_stmt_by, in_stmt_to, in_parameter, in_file_target_by, in_file_target_to, in_file_small_by, in_top_level_by}
use Rattle.bq_load_laws.proofs.Names.Fine.{Fine, deep_fine}

-- the name of a method, which a namespace may lack
abbrev pub MethodFine : SuffixLayer → Type 0
MethodFine (Suffix-F.Method n xs) = 1 ≤ name_line n
MethodFine _ = Unit {0}

abbrev pub LoadClauseFine : LoadClause → Type 0
LoadClauseFine c = 1 ≤ name_line c.local

-- a load names its line
abbrev pub LoadFine : ℕ → SmallKind → Type 0
LoadFine line (small.Load l) = 1 ≤ line
LoadFine line _ = Unit {0}

abbrev pub LoadsFine : Stmt-F Stmt Branch → Type 0
LoadsFine (Stmt-F.Simple xs) = AllByRecursion (λ x. LoadFine x.line x.kind) xs
LoadsFine _ = Unit {0}

-- there is no `lambda`, after which anything may come
abbrev pub TokenFine : TokenKind → Type 0
TokenFine k.Lambda = ⊥
TokenFine _ = Unit {0}

module _ (file : FileParts) where
  -- ---- expressions

  abbrev pub ExprFine : Expr → Type 0
  ExprFine x = (layers : ℕ) (around : Around) → Fine (in_expr_to file layers around x)

  -- the faults of expressions inside
  abbrev pub Inner : Type 0
  Inner = Around → Expr → List (Fault NameFault)

  abbrev pub Sound : Inner → Type 0
  Sound inner = (around : Around) (x : Expr) → ExprFine x → Fine (inner around x)

  pub layers_sound : (layers : ℕ) → Sound (in_expr_to file layers)
  layers_sound layers around x h = h layers around

  pub expr_sound : Sound (in_expr file)
  unfolding in_expr
  expr_sound around x h = h _ around

  abbrev pub ExprLayerFine : ExprLayer → Type 0
  ExprLayerFine l = (inner : Inner) → Sound inner → (around : Around) → Fine (in_expr_by file inner around l)

  pub expr_of_layer : (x : Expr) → ExprLayerFine (out-Expr x) → ExprFine x
  unfolding in_expr_to
  expr_of_layer x h zero around = deep_fine
  expr_of_layer x h (suc layers) around = h (in_expr_to file layers) (layers_sound layers) around

  abbrev pub TargetFine : TargetExpr → Type 0
  TargetFine t =
      ((inner : Inner) → Sound inner → (layers : ℕ) (around : Around) → Fine (in_target_to file inner layers around t))
      × ((layers : ℕ) (before : Before) → Fine (in_file_target_to file layers before t))

  abbrev pub TargetLayerFine : TargetLayer → Type 0
  TargetLayerFine l =
      ((inner : Inner) → Sound inner → (one : TargetExpr → List (Fault NameFault)) → ((t : TargetExpr) → TargetFine t → Fine (one t)) → (around : Around) → Fine (in_target_by file inner one around l))
      × ((one : Before → TargetExpr → List (Fault NameFault)) → ((before : Before) (t : TargetExpr) → TargetFine t → Fine (one before t)) → (add : List Name → TargetExpr → List Name) (before : Before)
      → Fine (in_file_target_by file one add before l))

  target_in : (t : TargetExpr) → TargetLayerFine (out-TargetExpr t) → (inner : Inner) → Sound inner → (layers : ℕ) (around : Around) → Fine (in_target_to file inner layers around t)
  unfolding in_target_to
  target_in t h inner sound zero around = deep_fine
  target_in t h inner sound (suc layers) around = h.0 inner sound (in_target_to file inner layers around) (λ u g. g.0 inner sound layers around) around

  target_of_file : (t : TargetExpr) → TargetLayerFine (out-TargetExpr t) → (layers : ℕ) (before : Before) → Fine (in_file_target_to file layers before t)
  unfolding in_file_target_to
  target_of_file t h zero before = deep_fine
  target_of_file t h (suc layers) before = h.1 (in_file_target_to file layers) (λ b u g. g.1 layers b) _ before

  pub target_of_layer : (t : TargetExpr) → TargetLayerFine (out-TargetExpr t) → TargetFine t
  target_of_layer t h = (target_in t h, target_of_file t h)

  abbrev pub PairFine : Pair → Type 0
  PairFine p = (inner : Inner) → Sound inner → (around : Around) → Fine (in_pair file inner around p)

  abbrev pub OperationFine : Operation → Type 0
  OperationFine o = (inner : Inner) → Sound inner → (around : Around) → Fine (in_operation file inner around o)

  abbrev pub ChoiceFine : Choice → Type 0
  ChoiceFine o = (inner : Inner) → Sound inner → (around : Around) → Fine (in_choice file inner around o)

  abbrev pub ArgumentFine : Argument → Type 0
  ArgumentFine x = (inner : Inner) → Sound inner → (around : Around) → Fine (in_argument_by file inner around (out-Argument x))

  abbrev pub SuffixLayerFine : SuffixLayer → Type 0
  SuffixLayerFine l = ((inner : Inner) → Sound inner → (around : Around) → Fine (in_suffix_by file inner around l)) × MethodFine l

  abbrev pub SuffixFine : Suffix → Type 0
  SuffixFine s = SuffixLayerFine (out-Suffix s)

  abbrev pub ClauseFine : Clause → Type 0
  ClauseFine c = (inner : Inner) → Sound inner → (outer around : Around) → Fine (in_clause_by file inner outer around (out-Clause c))

  -- ---- statements

  abbrev pub ParameterFine : Parameter → Type 0
  ParameterFine q = (names : List Name) → Fine (in_parameter file names q)

  abbrev pub SmallKindFine : ℕ → SmallKind → Type 0
  SmallKindFine line x =
      ((around : Around) (looping : Bool) → Fine (in_small_by file around looping line x)) × ((before : Before) → Fine (in_file_small_by file before line x)) × LoadFine line x

  abbrev pub SmallFine : SmallStmt → Type 0
  SmallFine x = SmallKindFine x.line x.kind

  -- what stands outside functions
  abbrev pub TopFine : Stmt-F Stmt Branch → Type 0
  TopFine l = ((before : Before) (line : ℕ) → 1 ≤ line → Fine (in_top_level_by file before line l)) × LoadsFine l

  abbrev pub StmtFine : Stmt → Type 0
  StmtFine x = ((layers : ℕ) (around : Around) (looping : Bool) → Fine (in_stmt_to file layers around looping x)) × TopFine (out-Stmt x)

  abbrev pub StmtLayerFine : Stmt-F Stmt Branch → Type 0
  StmtLayerFine l =
      ((inner : Bool → Stmt → List (Fault NameFault)) → ((looping : Bool) (x : Stmt) → StmtFine x → Fine (inner looping x)) → (around : Around) (looping : Bool) → Fine (in_stmt_by file inner around looping l))
      × TopFine l

  stmt_in : (x : Stmt) → StmtLayerFine (out-Stmt x) → (layers : ℕ) (around : Around) (looping : Bool) → Fine (in_stmt_to file layers around looping x)
  unfolding in_stmt_to
  stmt_in x h zero around looping = deep_fine
  stmt_in x h (suc layers) around looping = h.0 (in_stmt_to file layers around) (λ b y g. g.0 layers around b) around looping

  pub stmt_of_layer : (x : Stmt) → StmtLayerFine (out-Stmt x) → StmtFine x
  stmt_of_layer x h = (stmt_in x h, h.1)

  abbrev pub BranchFine : Branch → Type 0
  BranchFine b = (inner : Stmt → List (Fault NameFault)) → ((x : Stmt) → StmtFine x → Fine (inner x)) → (around : Around) → Fine (in_branch file inner around b)

  -- ---- parts

  abbrev pub PartFine : Part → Type 0
  PartFine (parts.token q) = TokenFine q
  PartFine (parts.maybe q) = Unit {0}
  PartFine (parts.both q r) = Unit {0}
  PartFine (parts.method n) = 1 ≤ name_line n
  PartFine (parts.attribute n) = Unit {0}
  PartFine (parts.word n) = 1 ≤ name_line n
  PartFine (parts.spelled s) = Unit {0}
  PartFine (parts.number n) = Unit {0}
  PartFine (parts.text s) = Unit {0}
  PartFine parts.anything = Unit {0}
  PartFine (parts.expr x) = ExprFine x
  PartFine (parts.open_expr x) = ExprFine x
  PartFine (parts.pair x) = PairFine x
  PartFine (parts.operation x) = OperationFine x
  PartFine (parts.choice x) = ChoiceFine x
  PartFine (parts.suffix x) = SuffixFine x
  PartFine (parts.argument first x) = ArgumentFine x
  PartFine (parts.clause x) = ClauseFine x
  PartFine (parts.target x) = TargetFine x
  PartFine (parts.open_target x) = TargetFine x
  PartFine (parts.parameter x) = ParameterFine x
  PartFine (parts.load_clause x) = LoadClauseFine x
  PartFine (parts.small_stmt x) = SmallFine x
  PartFine (parts.branch x) = BranchFine x
  PartFine (parts.elif x) = BranchFine x
  PartFine (parts.suite xs) = AllByRecursion StmtFine xs
  PartFine (parts.stmt x) = StmtFine x

  abbrev pub AllFine : List Part → Type 0
  AllFine ps = AllByRecursion PartFine ps

  module _ {A : Type 0} (part : A → Part) (P : A → Type 0) (is : (x : A) → PartFine (part x) → P x) where
    pub row_fine : (xs : List A) (more : List Part) → AllFine (row part xs more) → AllByRecursion P xs × AllFine more
    row_fine [] more h = (tt, h)
    row_fine (x ∷ xs) more h = let i = row_fine xs more h.1 in ((is x h.0, i.0), i.1)

    pub commas_fine : (xs : List A) (more : List Part) → AllFine (commas part xs more) → AllByRecursion P xs × AllFine more
    commas_fine [] more h = (tt, h)
    commas_fine (x ∷ xs) more h = let i = commas_fine xs more h.1.1 in ((is x h.1.0, i.0), i.1)

    pub listed_fine : (q : TokenKind) (xs : List A) (more : List Part) → AllFine (listed q part xs more) → AllByRecursion P xs × AllFine more
    listed_fine q [] more h = (tt, h)
    listed_fine q (x ∷ []) more h = ((is x h.0, tt), h.1.1)
    listed_fine q (x ∷ y ∷ ys) more h = let i = listed_fine q (y ∷ ys) more h.1.1 in ((is x h.0, i.0), i.1)
