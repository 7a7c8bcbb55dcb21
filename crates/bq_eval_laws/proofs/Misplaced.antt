-- What is where it may not be: `x[i]` among the variables of a `for`, a tuple or list that is augmented, and in a resolved tree a name that
-- refers to nothing, or that is bound and refers to no place. How many of them a tree has is a measure of its form.
use Rattle.std.proofs.Common.{◌≡◌, ◌∙◌, ℕ, ◌+◌, List, [], ◌∷◌, map, Option, Some, None, refl, ap}
use Rattle.std.specs.Option.{option_map}
use Rattle.bq_parse_grammar.specs.declared.tree.Argument.TheOpen.{Argument-F, Choice-F, Clause-F, Expr-F, Operation-F, Pair-F, Suffix-F, TargetExpr-F}
use Rattle.bq_parse_grammar.specs.declared.tree.Argument.{Argument}
use Rattle.bq_parse_grammar.specs.declared.tree.Branch.{Branch}
use Rattle.bq_parse_grammar.specs.declared.tree.Choice.{Choice}
use Rattle.bq_parse_grammar.specs.declared.tree.Clause.{Clause}
use Rattle.bq_parse_grammar.specs.declared.tree.Expr.{Expr}
use Rattle.bq_parse_grammar.specs.declared.tree.Operation.{Operation}
use Rattle.bq_parse_grammar.specs.declared.tree.Pair.{Pair}
use Rattle.bq_parse_grammar.specs.declared.tree.Parameter.{Parameter}
use Rattle.bq_parse_grammar.specs.declared.tree.Parameter.TheVariants as parameter
use Rattle.bq_parse_grammar.specs.declared.tree.SmallKind.{SmallKind}
use Rattle.bq_parse_grammar.specs.declared.tree.SmallKind.TheVariants as small
use Rattle.bq_parse_grammar.specs.declared.tree.SmallStmt.{SmallStmt}
use Rattle.bq_parse_grammar.specs.declared.tree.Stmt.{Stmt}
use Rattle.bq_parse_grammar.specs.declared.tree.Stmt.TheOpen.{Branch-F, Stmt-F}
use Rattle.bq_parse_grammar.specs.declared.tree.Suffix.{Suffix}
use Rattle.bq_parse_grammar.specs.declared.tree.TargetExpr.{TargetExpr}
use Rattle.bq_parse_grammar.specs.declared.tree.Identifier.{Identifier}
use Rattle.bq_parse_grammar.specs.declared.tree.Referent.{Referent}
use Rattle.bq_parse_grammar.specs.declared.tree.Referent.TheVariants as referent
use Rattle.bq_resolve_scope.specs.Expressions.{refer}
use Rattle.bq_parse_laws.specs.LeftOut.{sum_of, optional_count}
use Rattle.bq_eval_laws.specs.Referents.{RefersToAny, RefersToPlace}
use Rattle.bq_eval_laws.proofs.Measures.{Steps, IsOther, IsOtherTarget, Measure, HasNoTree, StmtSteps, StmtMeasure, argument_of, clause_of, expr_of, suffix_of, target_of, choice_of, operation_of, pair_of, stmt_of, branch_of}

-- of a target: as the variables of a `for`, as what is assigned to, and as what is augmented
pub record InTarget : Type 0 where
  pub variables : ℕ
  pub place : ℕ
  pub several : ℕ

abbrev pub variables_in : List InTarget → ℕ
variables_in [] = 0
variables_in (t ∷ ts) = t.variables + variables_in ts

abbrev pub place_in : List InTarget → ℕ
place_in [] = 0
place_in (t ∷ ts) = t.place + place_in ts

-- ---- one node, with the number of each child in its place

abbrev pub argument_step : Argument-F ℕ ℕ ℕ ℕ InTarget ℕ ℕ ℕ → ℕ
argument_step (Argument-F.Positional n) = n
argument_step (Argument-F.Named b n) = n
argument_step (Argument-F.Star n) = n
argument_step (Argument-F.StarStar n) = n

abbrev pub clause_step : Clause-F ℕ ℕ ℕ ℕ InTarget ℕ ℕ ℕ → ℕ
clause_step (Clause-F.For t n) = t.variables + n
clause_step (Clause-F.If n) = n

abbrev pub choice_step : Choice-F ℕ ℕ ℕ ℕ InTarget ℕ ℕ ℕ → ℕ
choice_step x = x.value + x.condition

abbrev pub operation_step : Operation-F ℕ ℕ ℕ ℕ InTarget ℕ ℕ ℕ → ℕ
operation_step x = x.operand

abbrev pub pair_step : Pair-F ℕ ℕ ℕ ℕ InTarget ℕ ℕ ℕ → ℕ
pair_step x = x.key + x.value

abbrev pub suffix_step : Suffix-F ℕ ℕ ℕ ℕ InTarget ℕ ℕ ℕ → ℕ
suffix_step (Suffix-F.Call ns) = sum_of ns
suffix_step (Suffix-F.Method b ns) = sum_of ns
suffix_step (Suffix-F.Attribute b) = 0
suffix_step (Suffix-F.Suffix::Index n) = n
suffix_step (Suffix-F.Slice l m n) = optional_count l + (optional_count m + optional_count n)

-- `bound` is how many a name counts for that is bound
abbrev pub target_step : (Identifier → ℕ) → TargetExpr-F ℕ ℕ ℕ ℕ InTarget ℕ ℕ ℕ → InTarget
target_step bound (TargetExpr-F.TargetExpr::Name n) = record { variables = bound n; place = bound n; several = 0 }
target_step bound (TargetExpr-F.TargetExpr::Index m n) = record { variables = 1; place = m + n; several = 0 }
target_step bound (TargetExpr-F.TargetExpr::Tuple ts) = record { variables = variables_in ts; place = place_in ts; several = 1 }
target_step bound (TargetExpr-F.TargetExpr::List ts) = record { variables = variables_in ts; place = place_in ts; several = 1 }

-- `used` is how many one counts for that is used
abbrev pub expr_step : (Identifier → ℕ) → Expr-F ℕ ℕ ℕ ℕ InTarget ℕ ℕ ℕ → ℕ
expr_step used (Expr-F.Expr::Name n) = used n
expr_step used (Expr-F.Int b) = 0
expr_step used (Expr-F.String b) = 0
expr_step used (Expr-F.Expr::List ns) = sum_of ns
expr_step used (Expr-F.Expr::Tuple ns) = sum_of ns
expr_step used (Expr-F.Dict ns) = sum_of ns
expr_step used (Expr-F.ListComprehension m ns own) = m + sum_of ns
expr_step used (Expr-F.DictComprehension m ns own) = m + sum_of ns
expr_step used (Expr-F.Primary m ns) = m + sum_of ns
expr_step used (Expr-F.Unary os n) = n
expr_step used (Expr-F.Binary m ns) = m + sum_of ns
expr_step used (Expr-F.Compare m o n) = m + n
expr_step used (Expr-F.Conditional ms n) = sum_of ms + n
expr_step used Expr-F.Lambda = 0

abbrev pub steps_by : (Identifier → ℕ) → (Identifier → ℕ) → Steps ℕ ℕ ℕ ℕ InTarget ℕ ℕ ℕ
steps_by used bound = record {
  argument_step = argument_step;
  clause_step = clause_step;
  expr_step = expr_step used;
  suffix_step = suffix_step;
  target_step = target_step bound;
  choice_step = choice_step;
  operation_step = operation_step;
  pair_step = pair_step;
}

-- of a tree as it is parsed, in which names refer to nothing yet
abbrev pub no_name : Identifier → ℕ
no_name n = 0

abbrev pub parsed : Steps ℕ ℕ ℕ ℕ InTarget ℕ ℕ ℕ
parsed = steps_by no_name no_name

-- of a resolved one

abbrev pub loose_at : Referent → ℕ
loose_at (referent.Unresolved line) = 1
loose_at _ = 0

abbrev pub loose : Identifier → ℕ
loose n = loose_at n.referent

abbrev pub stray_at : Referent → ℕ
stray_at (referent.Local slot) = 0
stray_at (referent.Global k) = 0
stray_at _ = 1

abbrev pub stray : Identifier → ℕ
stray n = stray_at n.referent

abbrev pub resolved : Steps ℕ ℕ ℕ ℕ InTarget ℕ ℕ ℕ
resolved = steps_by loose stray

pub name_is_kept : (n : Identifier) (r : Referent) → RefersToAny r → expr_step loose (Expr-F.Expr::Name (refer n r)) ≡ expr_step no_name (Expr-F.Expr::Name n)
name_is_kept n (referent.Unresolved line) refers = absurd refers
name_is_kept n (referent.Local slot) refers = refl
name_is_kept n (referent.Global k) refers = refl
name_is_kept n (referent.Loaded k) refers = refl
name_is_kept n (referent.Predeclared p) refers = refl
name_is_kept n (referent.Member p) refers = refl

pub variable_is_kept : (n : Identifier) (r : Referent) → RefersToPlace r → target_step stray (TargetExpr-F.TargetExpr::Name (refer n r)) ≡ target_step no_name (TargetExpr-F.TargetExpr::Name n)
variable_is_kept n (referent.Unresolved line) refers = absurd refers
variable_is_kept n (referent.Local slot) refers = refl
variable_is_kept n (referent.Global k) refers = refl
variable_is_kept n (referent.Loaded k) refers = absurd refers
variable_is_kept n (referent.Predeclared p) refers = absurd refers
variable_is_kept n (referent.Member p) refers = absurd refers

pub other_is_kept : (o : Expr-F ℕ ℕ ℕ ℕ InTarget ℕ ℕ ℕ) → IsOther o → expr_step loose o ≡ expr_step no_name o
other_is_kept (Expr-F.Expr::Name n) other = absurd other
other_is_kept (Expr-F.Int b) other = refl
other_is_kept (Expr-F.String b) other = refl
other_is_kept (Expr-F.Expr::List ns) other = refl
other_is_kept (Expr-F.Expr::Tuple ns) other = refl
other_is_kept (Expr-F.Dict ns) other = refl
other_is_kept (Expr-F.ListComprehension m ns own) other = refl
other_is_kept (Expr-F.DictComprehension m ns own) other = refl
other_is_kept (Expr-F.Primary m ns) other = refl
other_is_kept (Expr-F.Unary os n) other = refl
other_is_kept (Expr-F.Binary m ns) other = refl
other_is_kept (Expr-F.Compare m o n) other = refl
other_is_kept (Expr-F.Conditional ms n) other = refl
other_is_kept Expr-F.Lambda other = refl

pub target_is_kept : (o : TargetExpr-F ℕ ℕ ℕ ℕ InTarget ℕ ℕ ℕ) → IsOtherTarget o → target_step stray o ≡ target_step no_name o
target_is_kept (TargetExpr-F.TargetExpr::Name n) other = absurd other
target_is_kept (TargetExpr-F.TargetExpr::Index m n) other = refl
target_is_kept (TargetExpr-F.TargetExpr::Tuple ts) other = refl
target_is_kept (TargetExpr-F.TargetExpr::List ts) other = refl

abbrev pub misplaced : Measure ℕ ℕ ℕ ℕ InTarget ℕ ℕ ℕ
misplaced = record {
  after = resolved;
  expr_before = expr_step no_name;
  target_before = target_step no_name;
  of_name = name_is_kept;
  of_other = other_is_kept;
  of_list = λ x cs own other. refl;
  of_dict = λ p cs own other. refl;
  of_method = λ n r xs. refl;
  of_variable = variable_is_kept;
  of_target = target_is_kept;
}

-- ---- how much is wrong in a tree

module _ (M : Steps ℕ ℕ ℕ ℕ InTarget ℕ ℕ ℕ) where
  abbrev pub variables_by : TargetExpr → ℕ
  variables_by t = (target_of M t).variables

  abbrev pub place_by : TargetExpr → ℕ
  place_by t = (target_of M t).place

  abbrev pub several_by : TargetExpr → ℕ
  several_by t = (target_of M t).several

  pub all_variables : (ts : List TargetExpr) → variables_in (map (target_of M) ts) ≡ sum_of (map variables_by ts)
  all_variables [] = refl
  all_variables (t ∷ ts) = ap (λ n. variables_by t + n) (all_variables ts)

  pub all_places : (ts : List TargetExpr) → place_in (map (target_of M) ts) ≡ sum_of (map place_by ts)
  all_places [] = refl
  all_places (t ∷ ts) = ap (λ n. place_by t + n) (all_places ts)

  abbrev pub parameter_by : Parameter → ℕ
  parameter_by (parameter.Default n x) = expr_of M x
  parameter_by _ = 0

  abbrev pub kind_by : SmallKind → ℕ
  kind_by (small.Expr x) = expr_of M x
  kind_by (small.Assign t x) = place_by t + expr_of M x
  kind_by (small.Augment t o x) = several_by t + (place_by t + expr_of M x)
  kind_by (small.Return (Some x)) = expr_of M x
  kind_by _ = 0

  abbrev pub small_by : SmallStmt → ℕ
  small_by x = kind_by x.kind

  abbrev pub branch_step_by : Branch-F ℕ ℕ → ℕ
  branch_step_by x = expr_of M x.condition + sum_of x.block

  abbrev pub stmt_step_by : Stmt-F ℕ ℕ → ℕ
  stmt_step_by (Stmt-F.Simple xs) = sum_of (map small_by xs)
  stmt_step_by (Stmt-F.If ms ns) = sum_of ms + sum_of ns
  stmt_step_by (Stmt-F.For t x ns) = variables_by t + (expr_of M x + sum_of ns)
  stmt_step_by (Stmt-F.Def n ps ns) = sum_of (map parameter_by ps) + sum_of ns

  abbrev pub stmts_by : StmtSteps ℕ ℕ ℕ
  stmts_by = record { small_step = small_by; stmt_step = stmt_step_by; branch_step = branch_step_by }

pub return_is_kept : (line : ℕ) (x y : Option Expr) → option_map (expr_of resolved) y ≡ option_map (expr_of parsed) x
    → small_by resolved (record { line = line; kind = small.Return y }) ≡ small_by parsed (record { line = line; kind = small.Return x })
return_is_kept line None None h = refl
return_is_kept line None (Some y) h = absurd (let no : ⊥ = cc in no)
return_is_kept line (Some x) None h = absurd (let no : ⊥ = cc in no)
return_is_kept line (Some x) (Some y) h = cc

pub rest_is_kept : (line : ℕ) (k : SmallKind) → HasNoTree k → small_by resolved (record { line = line; kind = k }) ≡ small_by parsed (record { line = line; kind = k })
rest_is_kept line (small.Expr x) none = absurd none
rest_is_kept line (small.Assign t x) none = absurd none
rest_is_kept line (small.Augment t o x) none = absurd none
rest_is_kept line (small.Return x) none = absurd none
rest_is_kept line small.Break none = refl
rest_is_kept line small.Continue none = refl
rest_is_kept line small.Pass none = refl
rest_is_kept line (small.Load l) none = refl

abbrev pub stmts_misplaced : StmtMeasure misplaced ℕ ℕ ℕ
stmts_misplaced = record {
  later = stmts_by resolved;
  earlier = stmts_by parsed;
  of_expr = λ line x y h. h;
  of_assign = λ line t u x y h k. ap (λ t. t.place + expr_of resolved y) h ∙ ap (λ n. place_by parsed t + n) k;
  of_augment = λ line t u o x y h k. ap (λ t. t.several + (t.place + expr_of resolved y)) h ∙ ap (λ n. several_by parsed t + (place_by parsed t + n)) k;
  of_return = return_is_kept;
  of_rest = rest_is_kept;
  of_line = λ xs ys h. ap (λ ns. sum_of ns) h;
  of_if = λ bs zs. refl;
  of_loop = λ t u x y body h k. ap (λ t. t.variables + (expr_of resolved y + sum_of body)) h ∙ ap (λ n. variables_by parsed t + (n + sum_of body)) k;
  of_branch = λ x y block h. ap (λ n. n + sum_of block) h;
}

-- ---- of trees as they are parsed

abbrev pub wrong : Expr → ℕ
wrong = expr_of parsed

abbrev pub argument_wrong : Argument → ℕ
argument_wrong = argument_of parsed

abbrev pub clause_wrong : Clause → ℕ
clause_wrong = clause_of parsed

abbrev pub suffix_wrong : Suffix → ℕ
suffix_wrong = suffix_of parsed

abbrev pub choice_wrong : Choice → ℕ
choice_wrong = choice_of parsed

abbrev pub operation_wrong : Operation → ℕ
operation_wrong = operation_of parsed

abbrev pub pair_wrong : Pair → ℕ
pair_wrong = pair_of parsed

abbrev pub variables_wrong : TargetExpr → ℕ
variables_wrong = variables_by parsed

abbrev pub place_wrong : TargetExpr → ℕ
place_wrong = place_by parsed

abbrev pub several : TargetExpr → ℕ
several = several_by parsed

abbrev pub parameter_wrong : Parameter → ℕ
parameter_wrong = parameter_by parsed

abbrev pub kind_wrong : SmallKind → ℕ
kind_wrong = kind_by parsed

abbrev pub small_wrong : SmallStmt → ℕ
small_wrong = small_by parsed

abbrev pub stmt_wrong : Stmt → ℕ
stmt_wrong = stmt_of (stmts_by parsed)

abbrev pub branch_wrong : Branch → ℕ
branch_wrong = branch_of (stmts_by parsed)
