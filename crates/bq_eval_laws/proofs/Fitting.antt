-- The depth of a tree is a measure of its form; trees that are no deeper than the layers that are looked at fit.
use Rattle.std.proofs.Common.{◌≡◌, ◌≤◌, ℕ, zero, suc, ◌+◌, max, List, [], ◌∷◌, map, Option, Some, None, Ok, refl, ap, ◌∙◌, arith}
use Rattle.std.specs.List.{AllByRecursion}
use Rattle.std.specs.Option.{option_map}
use Rattle.bq_parse_grammar.specs.declared.tree.Argument.TheOpen.{Argument-F, Clause-F, Expr-F, Suffix-F, TargetExpr-F}
use Rattle.bq_parse_grammar.specs.declared.tree.Argument.{Argument, out-Argument}
use Rattle.bq_parse_grammar.specs.declared.tree.Branch.{Branch, out-Branch}
use Rattle.bq_parse_grammar.specs.declared.tree.Choice.{Choice, out-Choice}
use Rattle.bq_parse_grammar.specs.declared.tree.Clause.{Clause, out-Clause}
use Rattle.bq_parse_grammar.specs.declared.tree.Expr.{Expr, out-Expr}
use Rattle.bq_parse_grammar.specs.declared.tree.Operation.{Operation, out-Operation}
use Rattle.bq_parse_grammar.specs.declared.tree.Pair.{Pair, out-Pair}
use Rattle.bq_parse_grammar.specs.declared.tree.Parameter.{Parameter}
use Rattle.bq_parse_grammar.specs.declared.tree.Parameter.TheVariants as parameter
use Rattle.bq_parse_grammar.specs.declared.tree.SmallKind.{SmallKind}
use Rattle.bq_parse_grammar.specs.declared.tree.SmallKind.TheVariants as small
use Rattle.bq_parse_grammar.specs.declared.tree.SmallStmt.{SmallStmt}
use Rattle.bq_parse_grammar.specs.declared.tree.Stmt.{Stmt, out-Stmt}
use Rattle.bq_parse_grammar.specs.declared.tree.Stmt.TheOpen.{Stmt-F}
use Rattle.bq_parse_grammar.specs.declared.tree.Suffix.{out-Suffix}
use Rattle.bq_parse_grammar.specs.declared.tree.TargetExpr.{TargetExpr, out-TargetExpr}
use Rattle.bq_parse_grammar.specs.declared.tree.TopLevel.{TopLevel}
use Rattle.bq_parse_grammar.specs.Targets.{ExprLayer, SuffixLayer}
use Rattle.bq_parse_laws.specs.Depth.{deepest, argument_step, clause_step, choice_step, operation_step, pair_step, suffix_step, target_step, expr_step, expr_depth, target_depth, argument_depth, clause_depth, suffix_depth, choice_depth, operation_depth, pair_depth, parameter_depth, kind_depth, small_depth, branch_step, stmt_step, stmt_depth, branch_depth, max_depth}
use Rattle.bq_resolve_scope.specs.declared.file.Function.{Function}
use Rattle.bq_resolve_scope.specs.declared.file.Outside.{Outside}
use Rattle.bq_resolve_scope.specs.declared.file.Outside.TheVariants as outside
use Rattle.bq_resolve_scope.specs.declared.file.ResolvedFile.{ResolvedFile}
use Rattle.bq_resolve_scope.specs.Files.{resolved}
use Rattle.bq_resolve_scope.specs.Names.{TargetLayer, ClauseLayer, max_layers}
use Rattle.bq_resolve_scope.specs.Universe.{UniverseParts}
use Rattle.bq_eval_spec.specs.Trees.{ArgumentLayer, StmtLayer}
use Rattle.bq_eval_laws.specs.Layers.{PairParts, OperationParts, ChoiceParts, ArgumentLayerParts, ArgumentParts, OptionalParts, SuffixLayerParts, SuffixParts, ClauseLayerParts, ClauseParts, ExprParts, TargetParts}
use Rattle.bq_eval_laws.specs.Fits.{IndexParts, TargetFits, VariablesOfLayer, Variables, VariableParts, ExprFitsTo, ExprFits, PlaceFits, KindFits, SmallFits, ParameterFits, BranchFits, StmtLayerFits, StmtFits, FunctionFits, OutsideFits, LineFits, FileFits}
use Rattle.bq_eval_laws.proofs.Measures.{Steps, Measure, StmtSteps, StmtMeasure, argument_inside, clause_inside, suffix_inside, target_inside, expr_inside, stmt_inside, opened_argument, opened_clause, opened_suffix, opened_target, opened_expr, opened_pair, opened_operation, opened_choice, opened_stmt, opened_branch}
use Rattle.bq_eval_laws.proofs.KeptFiles.{ParameterIs, ParsedIs, FunctionIs, OutsideIs, FileIs, file_is}

-- ---- the depth, as a measure

abbrev pub depths : Steps ℕ ℕ ℕ ℕ ℕ ℕ ℕ ℕ
depths = record {
  argument_step = argument_step;
  clause_step = clause_step;
  expr_step = expr_step;
  suffix_step = suffix_step;
  target_step = target_step;
  choice_step = choice_step;
  operation_step = operation_step;
  pair_step = pair_step;
}

abbrev pub depth : Measure ℕ ℕ ℕ ℕ ℕ ℕ ℕ ℕ
depth = record {
  after = depths;
  expr_before = expr_step;
  target_before = target_step;
  of_name = λ n r refers. refl;
  of_other = λ o other. refl;
  of_list = λ x cs own other. refl;
  of_dict = λ p cs own other. refl;
  of_method = λ n r xs. refl;
  of_variable = λ n r refers. refl;
  of_target = λ o other. refl;
}

pub return_depth : (line : ℕ) (x y : Option Expr) → option_map expr_depth y ≡ option_map expr_depth x
    → small_depth (record { line = line; kind = small.Return y }) ≡ small_depth (record { line = line; kind = small.Return x })
return_depth line None None h = refl
return_depth line None (Some y) h = absurd (let no : ⊥ = cc in no)
return_depth line (Some x) None h = absurd (let no : ⊥ = cc in no)
return_depth line (Some x) (Some y) h = cc

abbrev pub stmt_depths : StmtSteps ℕ ℕ ℕ
stmt_depths = record { small_step = small_depth; stmt_step = stmt_step; branch_step = branch_step }

abbrev pub stmts_depth : StmtMeasure depth ℕ ℕ ℕ
stmts_depth = record {
  later = stmt_depths;
  earlier = stmt_depths;
  of_expr = λ line x y h. h;
  of_assign = λ line t u x y h k. ap (λ n. max n (expr_depth y)) h ∙ ap (λ n. max (target_depth t) n) k;
  of_augment = λ line t u o x y h k. ap (λ n. max n (expr_depth y)) h ∙ ap (λ n. max (target_depth t) n) k;
  of_return = return_depth;
  of_rest = λ line k none. refl;
  of_line = λ xs ys h. ap (λ ns. deepest ns + 1) h;
  of_if = λ bs zs. refl;
  of_loop = λ t u x y body h k. ap (λ n. max n (max (expr_depth y) (deepest body)) + 1) h ∙ ap (λ n. max (target_depth t) (max n (deepest body)) + 1) k;
  of_branch = λ x y block h. ap (λ n. max n (deepest block)) h;
}

-- ---- lists and what may be absent

pub each_of : {A : Type 0} (f : A → ℕ) (n : ℕ) (P : A → Type 0) → ((x : A) → f x ≤ n → P x) → (xs : List A) → deepest (map f xs) ≤ n → AllByRecursion P xs
each_of f n P fits [] h = tt
each_of f n P fits (x ∷ xs) h =
    let a : f x ≤ n = omega arith in
    let b : deepest (map f xs) ≤ n = omega arith in
    (fits x a, each_of f n P fits xs b)

abbrev part_depth : Option Expr → ℕ
part_depth None = 0
part_depth (Some x) = expr_depth x

-- ---- each has a layer

pub target_is_deep : (o : TargetLayer) → 1 ≤ target_step (target_inside depths o)
target_is_deep (TargetExpr-F.TargetExpr::Name n) = omega arith
target_is_deep (TargetExpr-F.TargetExpr::Index x i) = omega arith
target_is_deep (TargetExpr-F.TargetExpr::Tuple ts) = omega arith
target_is_deep (TargetExpr-F.TargetExpr::List ts) = omega arith

pub expr_is_deep : (o : ExprLayer) → 1 ≤ expr_step (expr_inside depths o)
expr_is_deep (Expr-F.Expr::Name n) = omega arith
expr_is_deep (Expr-F.Int i) = omega arith
expr_is_deep (Expr-F.String s) = omega arith
expr_is_deep (Expr-F.Expr::List xs) = omega arith
expr_is_deep (Expr-F.Expr::Tuple xs) = omega arith
expr_is_deep (Expr-F.Dict ps) = omega arith
expr_is_deep (Expr-F.ListComprehension x cs own) = omega arith
expr_is_deep (Expr-F.DictComprehension p cs own) = omega arith
expr_is_deep (Expr-F.Primary x ss) = omega arith
expr_is_deep (Expr-F.Unary os x) = omega arith
expr_is_deep (Expr-F.Binary x os) = omega arith
expr_is_deep (Expr-F.Compare x o y) = omega arith
expr_is_deep (Expr-F.Conditional cs x) = omega arith
expr_is_deep Expr-F.Lambda = omega arith

pub stmt_is_deep : (o : StmtLayer) → 1 ≤ stmt_step (stmt_inside stmt_depths o)
stmt_is_deep (Stmt-F.Simple xs) = omega arith
stmt_is_deep (Stmt-F.If bs zs) = omega arith
stmt_is_deep (Stmt-F.For t x body) = omega arith
stmt_is_deep (Stmt-F.Def n ps body) = omega arith

-- ---- expressions: `P` holds of those that are at most this deep

module _ (n : ℕ) (P : Expr → Type 0) (fits : (x : Expr) → expr_depth x ≤ n → P x) where
  argument : (o : ArgumentLayer) → argument_step (argument_inside depths o) ≤ n → ArgumentLayerParts P o
  argument (Argument-F.Positional x) h = fits x h
  argument (Argument-F.Named name x) h = fits x h
  argument (Argument-F.Star x) h = fits x h
  argument (Argument-F.StarStar x) h = fits x h

  arguments : (xs : List Argument) → deepest (map argument_depth xs) ≤ n → AllByRecursion (ArgumentParts P) xs
  arguments = each_of argument_depth n (ArgumentParts P) (λ x h. argument (out-Argument x) (omega (arith, opened_argument depths x)))

  part : (x : Option Expr) → part_depth x ≤ n → OptionalParts P x
  part None h = tt
  part (Some x) h = fits x h

  slice : (i j k : Option Expr) → suffix_step (Suffix-F.Slice (option_map expr_depth i) (option_map expr_depth j) (option_map expr_depth k)) ≤ n
      → (part_depth i ≤ n) × (part_depth j ≤ n) × (part_depth k ≤ n)
  slice None None None h = (omega arith, omega arith, omega arith)
  slice None None (Some k) h = (omega arith, omega arith, omega arith)
  slice None (Some j) None h = (omega arith, omega arith, omega arith)
  slice None (Some j) (Some k) h = (omega arith, omega arith, omega arith)
  slice (Some i) None None h = (omega arith, omega arith, omega arith)
  slice (Some i) None (Some k) h = (omega arith, omega arith, omega arith)
  slice (Some i) (Some j) None h = (omega arith, omega arith, omega arith)
  slice (Some i) (Some j) (Some k) h = (omega arith, omega arith, omega arith)

  suffix : (o : SuffixLayer) → suffix_step (suffix_inside depths o) ≤ n → SuffixLayerParts P o
  suffix (Suffix-F.Call xs) h = arguments xs h
  suffix (Suffix-F.Method name xs) h = arguments xs h
  suffix (Suffix-F.Attribute name) h = tt
  suffix (Suffix-F.Suffix::Index i) h = fits i h
  suffix (Suffix-F.Slice i j k) h = let all = slice i j k h in (part i all.0, part j all.1, part k all.2)

  clause : (o : ClauseLayer) → clause_step (clause_inside depths o) ≤ n → ClauseLayerParts P o
  clause (Clause-F.For t x) h = fits x (omega arith)
  clause (Clause-F.If x) h = fits x h

  clauses : (cs : List Clause) → deepest (map clause_depth cs) ≤ n → AllByRecursion (ClauseParts P) cs
  clauses = each_of clause_depth n (ClauseParts P) (λ c h. clause (out-Clause c) (omega (arith, opened_clause depths c)))

  pair : (p : Pair) → pair_depth p ≤ n → PairParts P p
  pair p h = (fits (out-Pair p).key (omega (arith, opened_pair depths p)), fits (out-Pair p).value (omega (arith, opened_pair depths p)))

  choice : (c : Choice) → choice_depth c ≤ n → ChoiceParts P c
  choice c h = (fits (out-Choice c).condition (omega (arith, opened_choice depths c)), fits (out-Choice c).value (omega (arith, opened_choice depths c)))

  operation : (o : Operation) → operation_depth o ≤ n → OperationParts P o
  operation o h = fits (out-Operation o).operand (omega (arith, opened_operation depths o))

  parts : (o : ExprLayer) → expr_step (expr_inside depths o) ≤ n + 1 → ExprParts P o
  parts (Expr-F.Expr::Name m) h = tt
  parts (Expr-F.Int i) h = tt
  parts (Expr-F.String s) h = tt
  parts (Expr-F.Expr::List xs) h = each_of expr_depth n P fits xs (omega arith)
  parts (Expr-F.Expr::Tuple xs) h = each_of expr_depth n P fits xs (omega arith)
  parts (Expr-F.Dict ps) h = each_of pair_depth n (PairParts P) pair ps (omega arith)
  parts (Expr-F.ListComprehension x cs own) h = (fits x (omega arith), clauses cs (omega arith))
  parts (Expr-F.DictComprehension p cs own) h = (pair p (omega arith), clauses cs (omega arith))
  parts (Expr-F.Primary x ss) h = (fits x (omega arith), each_of suffix_depth n (SuffixParts P) (λ s k. suffix (out-Suffix s) (omega (arith, opened_suffix depths s))) ss (omega arith))
  parts (Expr-F.Unary os x) h = fits x (omega arith)
  parts (Expr-F.Binary x os) h = (fits x (omega arith), each_of operation_depth n (OperationParts P) operation os (omega arith))
  parts (Expr-F.Compare x o y) h = (fits x (omega arith), fits y (omega arith))
  parts (Expr-F.Conditional cs x) h = (each_of choice_depth n (ChoiceParts P) choice cs (omega arith), fits x (omega arith))
  parts Expr-F.Lambda h = tt

  -- ---- targets

  target_layer : (T : TargetExpr → Type 0) (layers : ℕ) → ((t : TargetExpr) → target_depth t ≤ layers → target_depth t ≤ n + 1 → T t) → (o : TargetLayer) → target_step (target_inside depths o) ≤ layers + 1
      → target_step (target_inside depths o) ≤ n + 1 → TargetParts T o × IndexParts P o
  target_layer T layers inners (TargetExpr-F.TargetExpr::Name m) h k = (tt, tt)
  target_layer T layers inners (TargetExpr-F.TargetExpr::Index x i) h k = (tt, (fits x (omega arith), fits i (omega arith)))
  target_layer T layers inners (TargetExpr-F.TargetExpr::Tuple ts) h k =
      (each_of target_depth (deepest (map target_depth ts)) T (λ t l. inners t (omega arith) (omega arith)) ts (omega arith), tt)
  target_layer T layers inners (TargetExpr-F.TargetExpr::List ts) h k =
      (each_of target_depth (deepest (map target_depth ts)) T (λ t l. inners t (omega arith) (omega arith)) ts (omega arith), tt)

  target_fits : (layers : ℕ) (t : TargetExpr) → target_depth t ≤ layers → target_depth t ≤ n + 1 → TargetFits P layers t
  unfolding TargetFits
  target_fits zero t h k = absurd (omega (arith, opened_target depths t, target_is_deep (out-TargetExpr t)))
  target_fits (suc layers) t h k = target_layer (TargetFits P layers) layers (target_fits layers) (out-TargetExpr t) (omega (arith, opened_target depths t)) (omega (arith, opened_target depths t))

  -- ---- variables of clauses

  module _ (few : n ≤ max_layers) where
    variables_layer : (o : ClauseLayer) → clause_step (clause_inside depths o) ≤ n → VariablesOfLayer (TargetFits P max_layers) o
    variables_layer (Clause-F.For t x) h = target_fits max_layers t (omega arith) (omega arith)
    variables_layer (Clause-F.If x) h = tt

    variables : (cs : List Clause) → deepest (map clause_depth cs) ≤ n → AllByRecursion (Variables (TargetFits P max_layers)) cs
    variables = each_of clause_depth n (Variables (TargetFits P max_layers)) (λ c h. variables_layer (out-Clause c) (omega (arith, opened_clause depths c)))

    variable_parts : (o : ExprLayer) → expr_step (expr_inside depths o) ≤ n + 1 → VariableParts (TargetFits P max_layers) o
    variable_parts (Expr-F.ListComprehension x cs own) h = variables cs (omega arith)
    variable_parts (Expr-F.DictComprehension p cs own) h = variables cs (omega arith)
    variable_parts o h = tt

pub expr_fits : (n : ℕ) → n ≤ max_layers → (x : Expr) → expr_depth x ≤ n → ExprFitsTo n x
unfolding ExprFitsTo
expr_fits zero few x h = absurd (omega (arith, opened_expr depths x, expr_is_deep (out-Expr x)))
expr_fits (suc n) few x h =
    let fewer : n ≤ max_layers = omega arith in
    let layer : expr_step (expr_inside depths (out-Expr x)) ≤ n + 1 = omega (arith, opened_expr depths x) in
    (parts n (ExprFitsTo n) (expr_fits n fewer) (out-Expr x) layer, variable_parts n (ExprFitsTo n) (expr_fits n fewer) fewer (out-Expr x) layer)

-- ---- statements

an_expr_fits : (x : Expr) → expr_depth x ≤ max_layers → ExprFits x
an_expr_fits x h = expr_fits max_layers (omega arith) x h

a_place_fits : (t : TargetExpr) → target_depth t ≤ max_layers → PlaceFits t
a_place_fits t h = target_fits max_layers ExprFits an_expr_fits max_layers t h (omega arith)

kind_fits : (k : SmallKind) → kind_depth k ≤ max_layers → KindFits k
kind_fits (small.Expr x) h = an_expr_fits x h
kind_fits (small.Assign t x) h = (a_place_fits t (omega arith), an_expr_fits x (omega arith))
kind_fits (small.Augment t o x) h = (a_place_fits t (omega arith), an_expr_fits x (omega arith))
kind_fits (small.Return None) h = tt
kind_fits (small.Return (Some x)) h = an_expr_fits x h
kind_fits small.Break h = tt
kind_fits small.Continue h = tt
kind_fits small.Pass h = tt
kind_fits (small.Load l) h = tt

parameter_fits : (p : Parameter) → parameter_depth p ≤ max_layers → ParameterFits p
parameter_fits (parameter.Plain n) h = tt
parameter_fits (parameter.Default n x) h = an_expr_fits x h
parameter_fits parameter.BareStar h = tt
parameter_fits (parameter.Star n) h = tt
parameter_fits (parameter.StarStar n) h = tt

line_fits : (xs : List SmallStmt) → deepest (map small_depth xs) ≤ max_layers → AllByRecursion SmallFits xs
line_fits = each_of small_depth max_layers SmallFits (λ x. kind_fits x.kind)

module _ (n : ℕ) (few : n ≤ max_layers) (inner : Stmt → Type 0) (inners : (x : Stmt) → stmt_depth x ≤ n → inner x) where
  branch_fits : (b : Branch) → branch_depth b ≤ n → BranchFits inner b
  branch_fits b h =
      (an_expr_fits (out-Branch b).condition (omega (arith, opened_branch stmt_depths b)), each_of stmt_depth n inner inners (out-Branch b).block (omega (arith, opened_branch stmt_depths b)))

  layer_fits : (o : StmtLayer) → stmt_step (stmt_inside stmt_depths o) ≤ n + 1 → StmtLayerFits inner o
  layer_fits (Stmt-F.Simple xs) h = line_fits xs (omega arith)
  layer_fits (Stmt-F.If bs zs) h = (each_of branch_depth n (BranchFits inner) branch_fits bs (omega arith), each_of stmt_depth n inner inners zs (omega arith))
  layer_fits (Stmt-F.For t x body) h = (a_place_fits t (omega arith), an_expr_fits x (omega arith), each_of stmt_depth n inner inners body (omega arith))
  layer_fits (Stmt-F.Def m ps body) h = (each_of parameter_depth n ParameterFits (λ p k. parameter_fits p (omega arith)) ps (omega arith), each_of stmt_depth n inner inners body (omega arith))

pub stmt_fits : (n : ℕ) → n ≤ max_layers → (x : Stmt) → stmt_depth x ≤ n → StmtFits n x
unfolding StmtFits
stmt_fits zero few x h = absurd (omega (arith, opened_stmt stmt_depths x, stmt_is_deep (out-Stmt x)))
stmt_fits (suc n) few x h =
    let fewer : n ≤ max_layers = omega arith in
    layer_fits n fewer (StmtFits n) (stmt_fits n fewer) (out-Stmt x) (omega (arith, opened_stmt stmt_depths x))

-- ---- files

-- there are enough layers
enough : max_depth ≤ max_layers
unfolding max_layers
enough = omega arith

-- no deeper than the layers that are looked at
abbrev pub IsFew : ℕ → Type 0
IsFew n = n ≤ max_layers

parameter_is : (p : Parameter) → parameter_depth p ≤ max_layers → ParameterIs depth stmts_depth IsFew IsFew IsFew p
parameter_is (parameter.Plain n) h = tt
parameter_is (parameter.Default n x) h = h
parameter_is parameter.BareStar h = tt
parameter_is (parameter.Star n) h = tt
parameter_is (parameter.StarStar n) h = tt

parsed_is : (o : StmtLayer) → stmt_step (stmt_inside stmt_depths o) ≤ max_layers → ParsedIs depth stmts_depth IsFew IsFew IsFew o
parsed_is (Stmt-F.Simple xs) h = each_of small_depth max_layers (λ x. small_depth x ≤ max_layers) (λ x k. k) xs (omega arith)
parsed_is (Stmt-F.If bs zs) h = tt
parsed_is (Stmt-F.For t x body) h = tt
parsed_is (Stmt-F.Def m ps body) h = (each_of parameter_depth max_layers (λ p. ParameterIs depth stmts_depth IsFew IsFew IsFew p) parameter_is ps (omega arith), each_of stmt_depth max_layers (λ x. stmt_depth x ≤ max_layers) (λ x k. k) body (omega arith))

all_parsed : (ts : List TopLevel) → AllByRecursion (λ t. stmt_depth t.statement ≤ max_depth) ts → AllByRecursion (λ t. ParsedIs depth stmts_depth IsFew IsFew IsFew (out-Stmt t.statement)) ts
all_parsed [] h = tt
all_parsed (t ∷ ts) h =
    let a : stmt_depth t.statement ≤ max_depth = h.0 in
    (parsed_is (out-Stmt t.statement) (omega (arith, opened_stmt stmt_depths t.statement, enough)), all_parsed ts h.1)

every : {A : Type 0} (P Q : A → Type 0) → ((x : A) → P x → Q x) → (xs : List A) → AllByRecursion P xs → AllByRecursion Q xs
every P Q weaker [] h = tt
every P Q weaker (x ∷ xs) h = (weaker x h.0, every P Q weaker xs h.1)

outside_fits : (x : Outside) → OutsideIs depth stmts_depth IsFew IsFew IsFew x → OutsideFits x
outside_fits (outside.Simple xs) h = every (λ x. small_depth x ≤ max_layers) SmallFits (λ x. kind_fits x.kind) xs h
outside_fits (outside.Def d) h = every (λ x. expr_depth x ≤ max_layers) ExprFits an_expr_fits d.defaults h.1

function_fits : (d : Function) → FunctionIs depth stmts_depth IsFew IsFew IsFew d → FunctionFits d
unfolding FunctionFits
function_fits d h = every (λ x. stmt_depth x ≤ max_layers) (StmtFits max_layers) (stmt_fits max_layers (omega arith)) d.body h.1

pub file_is_few : (universe : UniverseParts) (ts : List TopLevel) (z : ResolvedFile) → AllByRecursion (λ t. stmt_depth t.statement ≤ max_depth) ts → resolved universe ts ≡ Ok z
    → FileIs depth stmts_depth IsFew IsFew IsFew z
file_is_few universe ts z all e = file_is depth stmts_depth IsFew IsFew IsFew universe ts z (all_parsed ts all) e

pub file_fits : (universe : UniverseParts) (ts : List TopLevel) (z : ResolvedFile) → AllByRecursion (λ t. stmt_depth t.statement ≤ max_depth) ts → resolved universe ts ≡ Ok z → FileFits z
file_fits universe ts z all e =
    let kept : FileIs depth stmts_depth IsFew IsFew IsFew z = file_is depth stmts_depth IsFew IsFew IsFew universe ts z (all_parsed ts all) e in (
      every (λ l. OutsideIs depth stmts_depth IsFew IsFew IsFew l.statement) LineFits (λ l. outside_fits l.statement) z.statements kept.0,
      every (λ d. FunctionIs depth stmts_depth IsFew IsFew IsFew d) FunctionFits function_fits z.functions kept.1,
    )
