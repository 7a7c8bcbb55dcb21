-- What is measured of a tree, node by node. Of a tree as it is parsed no name counts by what it refers to; of a resolved one a name may count
-- for more, if it refers to nothing; frames never count. So it is a measure of the tree's form.
use Rattle.std.proofs.Common.{◌≡◌, ◌∙◌, ℕ, List, map, Option, Some, None, sym, ap, rules}
use Rattle.std.specs.Option.{option_map}
use Rattle.bq_parse_grammar.specs.declared.tree.Argument.TheFolds.{fold-Argument, fold-Choice, fold-Clause, fold-Expr, fold-Operation, fold-Pair, fold-Suffix, fold-TargetExpr}
use Rattle.bq_parse_grammar.specs.declared.tree.Argument.TheOpen.{Argument-F, Choice-F, Clause-F, Expr-F, Operation-F, Pair-F, Suffix-F, TargetExpr-F}
use Rattle.bq_parse_grammar.specs.declared.tree.Argument.{Argument, out-Argument, roll-Argument, roll-out-Argument}
use Rattle.bq_parse_grammar.specs.declared.tree.Branch.{Branch, out-Branch, roll-Branch, roll-out-Branch}
use Rattle.bq_parse_grammar.specs.declared.tree.Choice.{Choice, out-Choice, roll-Choice, roll-out-Choice}
use Rattle.bq_parse_grammar.specs.declared.tree.Clause.{Clause, out-Clause, roll-Clause, roll-out-Clause}
use Rattle.bq_parse_grammar.specs.declared.tree.ComprehensionFrame.{ComprehensionFrame}
use Rattle.bq_parse_grammar.specs.declared.tree.Expr.{Expr, out-Expr, roll-Expr, roll-out-Expr, the_lemmas}
use Rattle.bq_parse_grammar.specs.declared.tree.Identifier.{Identifier}
use Rattle.bq_parse_grammar.specs.declared.tree.Operation.{Operation, out-Operation, roll-Operation, roll-out-Operation}
use Rattle.bq_parse_grammar.specs.declared.tree.Operator.{Operator}
use Rattle.bq_parse_grammar.specs.declared.tree.Pair.{Pair, out-Pair, roll-Pair, roll-out-Pair}
use Rattle.bq_parse_grammar.specs.declared.tree.Referent.{Referent}
use Rattle.bq_parse_grammar.specs.declared.tree.SmallKind.{SmallKind}
use Rattle.bq_parse_grammar.specs.declared.tree.SmallKind.TheVariants as small
use Rattle.bq_parse_grammar.specs.declared.tree.SmallStmt.{SmallStmt}
use Rattle.bq_parse_grammar.specs.declared.tree.Stmt as stmt
use Rattle.bq_parse_grammar.specs.declared.tree.Stmt.{Stmt, out-Stmt, roll-Stmt, roll-out-Stmt}
use Rattle.bq_parse_grammar.specs.declared.tree.Stmt.TheFolds.{fold-Branch, fold-Stmt}
use Rattle.bq_parse_grammar.specs.declared.tree.Stmt.TheOpen.{Branch-F, Stmt-F}
use Rattle.bq_parse_grammar.specs.declared.tree.Suffix.{Suffix, out-Suffix, roll-Suffix, roll-out-Suffix}
use Rattle.bq_parse_grammar.specs.declared.tree.TargetExpr.{TargetExpr, out-TargetExpr, roll-TargetExpr, roll-out-TargetExpr}
use Rattle.bq_parse_grammar.specs.Targets.{ExprLayer, SuffixLayer}
use Rattle.bq_resolve_scope.specs.Expressions.{refer}
use Rattle.bq_resolve_scope.specs.Names.{TargetLayer, ClauseLayer}
use Rattle.bq_eval_spec.specs.Trees.{ArgumentLayer, StmtLayer}
use Rattle.bq_eval_laws.specs.Referents.{RefersToAny, RefersToPlace}

-- of one node, with what is measured of each child in its place
pub record Steps (A C E S T H O P : Type 0) : Type 0 where
  pub argument_step : Argument-F A C E S T H O P → A
  pub clause_step : Clause-F A C E S T H O P → C
  pub expr_step : Expr-F A C E S T H O P → E
  pub suffix_step : Suffix-F A C E S T H O P → S
  pub target_step : TargetExpr-F A C E S T H O P → T
  pub choice_step : Choice-F A C E S T H O P → H
  pub operation_step : Operation-F A C E S T H O P → O
  pub pair_step : Pair-F A C E S T H O P → P

module _ {A C E S T H O P : Type 0} (M : Steps A C E S T H O P) where
  abbrev pub argument_of : Argument → A
  argument_of = fold-Argument A C E S T H O P M.argument_step M.clause_step M.expr_step M.suffix_step M.target_step M.choice_step M.operation_step M.pair_step

  abbrev pub clause_of : Clause → C
  clause_of = fold-Clause A C E S T H O P M.argument_step M.clause_step M.expr_step M.suffix_step M.target_step M.choice_step M.operation_step M.pair_step

  abbrev pub expr_of : Expr → E
  expr_of = fold-Expr A C E S T H O P M.argument_step M.clause_step M.expr_step M.suffix_step M.target_step M.choice_step M.operation_step M.pair_step

  abbrev pub suffix_of : Suffix → S
  suffix_of = fold-Suffix A C E S T H O P M.argument_step M.clause_step M.expr_step M.suffix_step M.target_step M.choice_step M.operation_step M.pair_step

  abbrev pub target_of : TargetExpr → T
  target_of = fold-TargetExpr A C E S T H O P M.argument_step M.clause_step M.expr_step M.suffix_step M.target_step M.choice_step M.operation_step M.pair_step

  abbrev pub choice_of : Choice → H
  choice_of = fold-Choice A C E S T H O P M.argument_step M.clause_step M.expr_step M.suffix_step M.target_step M.choice_step M.operation_step M.pair_step

  abbrev pub operation_of : Operation → O
  operation_of = fold-Operation A C E S T H O P M.argument_step M.clause_step M.expr_step M.suffix_step M.target_step M.choice_step M.operation_step M.pair_step

  abbrev pub pair_of : Pair → P
  pair_of = fold-Pair A C E S T H O P M.argument_step M.clause_step M.expr_step M.suffix_step M.target_step M.choice_step M.operation_step M.pair_step

  -- ---- a layer, with what is measured of each child in its place

  abbrev pub argument_inside : ArgumentLayer → Argument-F A C E S T H O P
  argument_inside (Argument-F.Positional x) = Argument-F.Positional (expr_of x)
  argument_inside (Argument-F.Named n x) = Argument-F.Named n (expr_of x)
  argument_inside (Argument-F.Star x) = Argument-F.Star (expr_of x)
  argument_inside (Argument-F.StarStar x) = Argument-F.StarStar (expr_of x)

  abbrev pub clause_inside : ClauseLayer → Clause-F A C E S T H O P
  clause_inside (Clause-F.For t x) = Clause-F.For (target_of t) (expr_of x)
  clause_inside (Clause-F.If x) = Clause-F.If (expr_of x)

  abbrev pub suffix_inside : SuffixLayer → Suffix-F A C E S T H O P
  suffix_inside (Suffix-F.Call xs) = Suffix-F.Call (map argument_of xs)
  suffix_inside (Suffix-F.Method n xs) = Suffix-F.Method n (map argument_of xs)
  suffix_inside (Suffix-F.Attribute n) = Suffix-F.Attribute n
  suffix_inside (Suffix-F.Suffix::Index x) = Suffix-F.Suffix::Index (expr_of x)
  suffix_inside (Suffix-F.Slice x y z) = Suffix-F.Slice (option_map expr_of x) (option_map expr_of y) (option_map expr_of z)

  abbrev pub target_inside : TargetLayer → TargetExpr-F A C E S T H O P
  target_inside (TargetExpr-F.TargetExpr::Name n) = TargetExpr-F.TargetExpr::Name n
  target_inside (TargetExpr-F.TargetExpr::Index x i) = TargetExpr-F.TargetExpr::Index (expr_of x) (expr_of i)
  target_inside (TargetExpr-F.TargetExpr::Tuple ts) = TargetExpr-F.TargetExpr::Tuple (map target_of ts)
  target_inside (TargetExpr-F.TargetExpr::List ts) = TargetExpr-F.TargetExpr::List (map target_of ts)

  abbrev pub expr_inside : ExprLayer → Expr-F A C E S T H O P
  expr_inside (Expr-F.Expr::Name n) = Expr-F.Expr::Name n
  expr_inside (Expr-F.Int i) = Expr-F.Int i
  expr_inside (Expr-F.String s) = Expr-F.String s
  expr_inside (Expr-F.Expr::List xs) = Expr-F.Expr::List (map expr_of xs)
  expr_inside (Expr-F.Expr::Tuple xs) = Expr-F.Expr::Tuple (map expr_of xs)
  expr_inside (Expr-F.Dict ps) = Expr-F.Dict (map pair_of ps)
  expr_inside (Expr-F.ListComprehension x cs own) = Expr-F.ListComprehension (expr_of x) (map clause_of cs) own
  expr_inside (Expr-F.DictComprehension p cs own) = Expr-F.DictComprehension (pair_of p) (map clause_of cs) own
  expr_inside (Expr-F.Primary x ss) = Expr-F.Primary (expr_of x) (map suffix_of ss)
  expr_inside (Expr-F.Unary os x) = Expr-F.Unary os (expr_of x)
  expr_inside (Expr-F.Binary x os) = Expr-F.Binary (expr_of x) (map operation_of os)
  expr_inside (Expr-F.Compare x o y) = Expr-F.Compare (expr_of x) o (expr_of y)
  expr_inside (Expr-F.Conditional cs x) = Expr-F.Conditional (map choice_of cs) (expr_of x)
  expr_inside Expr-F.Lambda = Expr-F.Lambda

  -- ---- of a tree, by its outermost layer

  rolled_argument : (o : ArgumentLayer) → argument_of (roll-Argument o) ≡ M.argument_step (argument_inside o)
  rolled_argument (Argument-F.Positional x) = search (rules, the_lemmas)
  rolled_argument (Argument-F.Named n x) = search (rules, the_lemmas)
  rolled_argument (Argument-F.Star x) = search (rules, the_lemmas)
  rolled_argument (Argument-F.StarStar x) = search (rules, the_lemmas)

  pub made_argument : (x : Argument) (o : ArgumentLayer) → roll-Argument o ≡ x → argument_of x ≡ M.argument_step (argument_inside o)
  made_argument x o e = sym (ap argument_of e) ∙ rolled_argument o

  pub opened_argument : (x : Argument) → argument_of x ≡ M.argument_step (argument_inside (out-Argument x))
  opened_argument x = made_argument x (out-Argument x) (roll-out-Argument x)

  rolled_clause : (o : ClauseLayer) → clause_of (roll-Clause o) ≡ M.clause_step (clause_inside o)
  rolled_clause (Clause-F.For t x) = search (rules, the_lemmas)
  rolled_clause (Clause-F.If x) = search (rules, the_lemmas)

  pub made_clause : (x : Clause) (o : ClauseLayer) → roll-Clause o ≡ x → clause_of x ≡ M.clause_step (clause_inside o)
  made_clause x o e = sym (ap clause_of e) ∙ rolled_clause o

  pub opened_clause : (x : Clause) → clause_of x ≡ M.clause_step (clause_inside (out-Clause x))
  opened_clause x = made_clause x (out-Clause x) (roll-out-Clause x)

  rolled_slice : (x y z : Option Expr) → suffix_of (roll-Suffix (Suffix-F.Slice x y z)) ≡ M.suffix_step (Suffix-F.Slice (option_map expr_of x) (option_map expr_of y) (option_map expr_of z))
  rolled_slice None None None = search (rules, the_lemmas)
  rolled_slice None None (Some z) = search (rules, the_lemmas)
  rolled_slice None (Some y) None = search (rules, the_lemmas)
  rolled_slice None (Some y) (Some z) = search (rules, the_lemmas)
  rolled_slice (Some x) None None = search (rules, the_lemmas)
  rolled_slice (Some x) None (Some z) = search (rules, the_lemmas)
  rolled_slice (Some x) (Some y) None = search (rules, the_lemmas)
  rolled_slice (Some x) (Some y) (Some z) = search (rules, the_lemmas)

  rolled_suffix : (o : SuffixLayer) → suffix_of (roll-Suffix o) ≡ M.suffix_step (suffix_inside o)
  rolled_suffix (Suffix-F.Call xs) = search (rules, the_lemmas)
  rolled_suffix (Suffix-F.Method n xs) = search (rules, the_lemmas)
  rolled_suffix (Suffix-F.Attribute n) = search (rules, the_lemmas)
  rolled_suffix (Suffix-F.Suffix::Index x) = search (rules, the_lemmas)
  rolled_suffix (Suffix-F.Slice x y z) = rolled_slice x y z

  pub made_suffix : (x : Suffix) (o : SuffixLayer) → roll-Suffix o ≡ x → suffix_of x ≡ M.suffix_step (suffix_inside o)
  made_suffix x o e = sym (ap suffix_of e) ∙ rolled_suffix o

  pub opened_suffix : (x : Suffix) → suffix_of x ≡ M.suffix_step (suffix_inside (out-Suffix x))
  opened_suffix x = made_suffix x (out-Suffix x) (roll-out-Suffix x)

  rolled_target : (o : TargetLayer) → target_of (roll-TargetExpr o) ≡ M.target_step (target_inside o)
  rolled_target (TargetExpr-F.TargetExpr::Name n) = search (rules, the_lemmas)
  rolled_target (TargetExpr-F.TargetExpr::Index x i) = search (rules, the_lemmas)
  rolled_target (TargetExpr-F.TargetExpr::Tuple ts) = search (rules, the_lemmas)
  rolled_target (TargetExpr-F.TargetExpr::List ts) = search (rules, the_lemmas)

  pub made_target : (x : TargetExpr) (o : TargetLayer) → roll-TargetExpr o ≡ x → target_of x ≡ M.target_step (target_inside o)
  made_target x o e = sym (ap target_of e) ∙ rolled_target o

  pub opened_target : (x : TargetExpr) → target_of x ≡ M.target_step (target_inside (out-TargetExpr x))
  opened_target x = made_target x (out-TargetExpr x) (roll-out-TargetExpr x)

  rolled_expr : (o : ExprLayer) → expr_of (roll-Expr o) ≡ M.expr_step (expr_inside o)
  rolled_expr (Expr-F.Expr::Name n) = search (rules, the_lemmas)
  rolled_expr (Expr-F.Int i) = search (rules, the_lemmas)
  rolled_expr (Expr-F.String s) = search (rules, the_lemmas)
  rolled_expr (Expr-F.Expr::List xs) = search (rules, the_lemmas)
  rolled_expr (Expr-F.Expr::Tuple xs) = search (rules, the_lemmas)
  rolled_expr (Expr-F.Dict ps) = search (rules, the_lemmas)
  rolled_expr (Expr-F.ListComprehension x cs own) = search (rules, the_lemmas)
  rolled_expr (Expr-F.DictComprehension p cs own) = search (rules, the_lemmas)
  rolled_expr (Expr-F.Primary x ss) = search (rules, the_lemmas)
  rolled_expr (Expr-F.Unary os x) = search (rules, the_lemmas)
  rolled_expr (Expr-F.Binary x os) = search (rules, the_lemmas)
  rolled_expr (Expr-F.Compare x o y) = search (rules, the_lemmas)
  rolled_expr (Expr-F.Conditional cs x) = search (rules, the_lemmas)
  rolled_expr Expr-F.Lambda = search (rules, the_lemmas)

  pub made_expr : (x : Expr) (o : ExprLayer) → roll-Expr o ≡ x → expr_of x ≡ M.expr_step (expr_inside o)
  made_expr x o e = sym (ap expr_of e) ∙ rolled_expr o

  pub opened_expr : (x : Expr) → expr_of x ≡ M.expr_step (expr_inside (out-Expr x))
  opened_expr x = made_expr x (out-Expr x) (roll-out-Expr x)

  pub made_pair : (x y : Expr) → pair_of (roll-Pair (record { key = x; value = y })) ≡ M.pair_step (record { key = expr_of x; value = expr_of y })
  made_pair x y = search (rules, the_lemmas)

  pub opened_pair : (p : Pair) → pair_of p ≡ M.pair_step (record { key = expr_of (out-Pair p).key; value = expr_of (out-Pair p).value })
  opened_pair p = sym (ap pair_of (roll-out-Pair p)) ∙ made_pair (out-Pair p).key (out-Pair p).value

  pub made_operation : (o : Operator) (x : Expr) → operation_of (roll-Operation (record { operator = o; operand = x })) ≡ M.operation_step (record { operator = o; operand = expr_of x })
  made_operation o x = search (rules, the_lemmas)

  pub opened_operation : (o : Operation) → operation_of o ≡ M.operation_step (record { operator = (out-Operation o).operator; operand = expr_of (out-Operation o).operand })
  opened_operation o = sym (ap operation_of (roll-out-Operation o)) ∙ made_operation (out-Operation o).operator (out-Operation o).operand

  pub made_choice : (x y : Expr) → choice_of (roll-Choice (record { value = x; condition = y })) ≡ M.choice_step (record { value = expr_of x; condition = expr_of y })
  made_choice x y = search (rules, the_lemmas)

  pub opened_choice : (o : Choice) → choice_of o ≡ M.choice_step (record { value = expr_of (out-Choice o).value; condition = expr_of (out-Choice o).condition })
  opened_choice o = sym (ap choice_of (roll-out-Choice o)) ∙ made_choice (out-Choice o).value (out-Choice o).condition

-- ---- a measure: of trees before they are resolved, and after it. It differs for names alone, and doesn't see frames.

-- another form than the use of a name
abbrev pub IsOther : {A C E S T H O P : Type 0} → Expr-F A C E S T H O P → Type 0
IsOther (Expr-F.Expr::Name n) = ⊥
IsOther _ = Unit {0}

-- another form of target than a name
abbrev pub IsOtherTarget : {A C E S T H O P : Type 0} → TargetExpr-F A C E S T H O P → Type 0
IsOtherTarget (TargetExpr-F.TargetExpr::Name n) = ⊥
IsOtherTarget _ = Unit {0}

pub record Measure (A C E S T H O P : Type 0) : Type 0 where
  pub after : Steps A C E S T H O P
  pub expr_before : Expr-F A C E S T H O P → E
  pub target_before : TargetExpr-F A C E S T H O P → T
  pub of_name : (n : Identifier) (r : Referent) → RefersToAny r → after.expr_step (Expr-F.Expr::Name (refer n r)) ≡ expr_before (Expr-F.Expr::Name n)
  pub of_other : (o : Expr-F A C E S T H O P) → IsOther o → after.expr_step o ≡ expr_before o
  pub of_list : (x : E) (cs : List C) (own other : ComprehensionFrame) → after.expr_step (Expr-F.ListComprehension x cs own) ≡ after.expr_step (Expr-F.ListComprehension x cs other)
  pub of_dict : (p : P) (cs : List C) (own other : ComprehensionFrame) → after.expr_step (Expr-F.DictComprehension p cs own) ≡ after.expr_step (Expr-F.DictComprehension p cs other)
  pub of_method : (n : Identifier) (r : Referent) (xs : List A) → after.suffix_step (Suffix-F.Method (refer n r) xs) ≡ after.suffix_step (Suffix-F.Method n xs)
  pub of_variable : (n : Identifier) (r : Referent) → RefersToPlace r → after.target_step (TargetExpr-F.TargetExpr::Name (refer n r)) ≡ target_before (TargetExpr-F.TargetExpr::Name n)
  pub of_target : (o : TargetExpr-F A C E S T H O P) → IsOtherTarget o → after.target_step o ≡ target_before o

abbrev pub before : {A C E S T H O P : Type 0} → Measure A C E S T H O P → Steps A C E S T H O P
before M = record M.after { expr_step = M.expr_before; target_step = M.target_before }

-- ---- statements: what is measured of the expressions and targets in one is all that counts of them

-- a small statement without an expression or a target
abbrev pub HasNoTree : SmallKind → Type 0
HasNoTree small.Break = Unit {0}
HasNoTree small.Continue = Unit {0}
HasNoTree small.Pass = Unit {0}
HasNoTree (small.Load l) = Unit {0}
HasNoTree _ = ⊥

pub record StmtSteps (W D B : Type 0) : Type 0 where
  pub small_step : SmallStmt → W
  pub stmt_step : Stmt-F D B → D
  pub branch_step : Branch-F D B → B

pub record StmtMeasure {A C E S T H O P : Type 0} (M : Measure A C E S T H O P) (W D B : Type 0) : Type 0 where
  pub later : StmtSteps W D B
  pub earlier : StmtSteps W D B
  pub of_expr : (line : ℕ) (x y : Expr) → expr_of M.after y ≡ expr_of (before M) x → later.small_step (record { line = line; kind = small.Expr y }) ≡ earlier.small_step (record { line = line; kind = small.Expr x })
  pub of_assign : (line : ℕ) (t u : TargetExpr) (x y : Expr) → target_of M.after u ≡ target_of (before M) t → expr_of M.after y ≡ expr_of (before M) x
      → later.small_step (record { line = line; kind = small.Assign u y }) ≡ earlier.small_step (record { line = line; kind = small.Assign t x })
  pub of_augment : (line : ℕ) (t u : TargetExpr) (o : Operator) (x y : Expr) → target_of M.after u ≡ target_of (before M) t → expr_of M.after y ≡ expr_of (before M) x
      → later.small_step (record { line = line; kind = small.Augment u o y }) ≡ earlier.small_step (record { line = line; kind = small.Augment t o x })
  pub of_return : (line : ℕ) (x y : Option Expr) → option_map (expr_of M.after) y ≡ option_map (expr_of (before M)) x
      → later.small_step (record { line = line; kind = small.Return y }) ≡ earlier.small_step (record { line = line; kind = small.Return x })
  pub of_rest : (line : ℕ) (k : SmallKind) → HasNoTree k → later.small_step (record { line = line; kind = k }) ≡ earlier.small_step (record { line = line; kind = k })
  pub of_line : (xs ys : List SmallStmt) → map later.small_step ys ≡ map earlier.small_step xs → later.stmt_step (Stmt-F.Simple ys) ≡ earlier.stmt_step (Stmt-F.Simple xs)
  pub of_if : (bs : List B) (zs : List D) → later.stmt_step (Stmt-F.If bs zs) ≡ earlier.stmt_step (Stmt-F.If bs zs)
  pub of_loop : (t u : TargetExpr) (x y : Expr) (body : List D) → target_of M.after u ≡ target_of (before M) t → expr_of M.after y ≡ expr_of (before M) x
      → later.stmt_step (Stmt-F.For u y body) ≡ earlier.stmt_step (Stmt-F.For t x body)
  pub of_branch : (x y : Expr) (block : List D) → expr_of M.after y ≡ expr_of (before M) x
      → later.branch_step (record { condition = y; block = block }) ≡ earlier.branch_step (record { condition = x; block = block })

module _ {W D B : Type 0} (N : StmtSteps W D B) where
  abbrev pub stmt_of : Stmt → D
  stmt_of = fold-Stmt D B N.stmt_step N.branch_step

  abbrev pub branch_of : Branch → B
  branch_of = fold-Branch D B N.stmt_step N.branch_step

  abbrev pub stmt_inside : StmtLayer → Stmt-F D B
  stmt_inside (Stmt-F.Simple xs) = Stmt-F.Simple xs
  stmt_inside (Stmt-F.If bs zs) = Stmt-F.If (map branch_of bs) (map stmt_of zs)
  stmt_inside (Stmt-F.For t x body) = Stmt-F.For t x (map stmt_of body)
  stmt_inside (Stmt-F.Def n ps body) = Stmt-F.Def n ps (map stmt_of body)

  rolled_stmt : (o : StmtLayer) → stmt_of (roll-Stmt o) ≡ N.stmt_step (stmt_inside o)
  rolled_stmt (Stmt-F.Simple xs) = search (rules, stmt.the_lemmas)
  rolled_stmt (Stmt-F.If bs zs) = search (rules, stmt.the_lemmas)
  rolled_stmt (Stmt-F.For t x body) = search (rules, stmt.the_lemmas)
  rolled_stmt (Stmt-F.Def n ps body) = search (rules, stmt.the_lemmas)

  pub made_stmt : (x : Stmt) (o : StmtLayer) → roll-Stmt o ≡ x → stmt_of x ≡ N.stmt_step (stmt_inside o)
  made_stmt x o e = sym (ap stmt_of e) ∙ rolled_stmt o

  pub opened_stmt : (x : Stmt) → stmt_of x ≡ N.stmt_step (stmt_inside (out-Stmt x))
  opened_stmt x = made_stmt x (out-Stmt x) (roll-out-Stmt x)

  pub made_branch : (x : Expr) (ys : List Stmt) → branch_of (roll-Branch (record { condition = x; block = ys })) ≡ N.branch_step (record { condition = x; block = map stmt_of ys })
  made_branch x ys = search (rules, stmt.the_lemmas)

  pub opened_branch : (b : Branch) → branch_of b ≡ N.branch_step (record { condition = (out-Branch b).condition; block = map stmt_of (out-Branch b).block })
  opened_branch b = sym (ap branch_of (roll-out-Branch b)) ∙ made_branch (out-Branch b).condition (out-Branch b).block
