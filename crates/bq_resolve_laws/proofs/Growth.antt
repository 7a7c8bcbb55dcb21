-- What is bound stays bound: the names of a function are at least as many as its parameters.
use Rattle.std.proofs.Common.{◌≤◌, ℕ, zero, suc, Bool, true, false, List, [], ◌∷◌, ◌++◌, length, length-append, arith}
use Rattle.std.specs.Prelude.{if◌then◌else◌}
use Rattle.bq_parse_grammar.specs.declared.tree.Argument.TheOpen.{TargetExpr-F}
use Rattle.bq_parse_grammar.specs.declared.tree.Branch.{Branch, out-Branch}
use Rattle.bq_parse_grammar.specs.declared.tree.Parameter.{Parameter}
use Rattle.bq_parse_grammar.specs.declared.tree.SmallKind.{SmallKind}
use Rattle.bq_parse_grammar.specs.declared.tree.SmallKind.TheVariants as small
use Rattle.bq_parse_grammar.specs.declared.tree.Stmt.{Stmt, out-Stmt}
use Rattle.bq_parse_grammar.specs.declared.tree.Stmt.TheOpen.{Stmt-F}
use Rattle.bq_parse_grammar.specs.declared.tree.TargetExpr.{TargetExpr, out-TargetExpr}
use Rattle.bq_resolve_scope.specs.Names.{Name, TargetLayer, max_layers, has, with_name, with_each, with_target_by, with_target_to, with_target, with_small, with_branch, with_stmt_by, with_stmt_to, with_stmt, with_parameter, function_names}
use Rattle.bq_resolve_scope.proofs.Cases.{with_small_by}

-- names are added, and none is lost
abbrev Grows : {A : Type 0} → (List Name → A → List Name) → Type 0
Grows {A = A} add = (names : List Name) (x : A) → length names ≤ length (add names x)

name_by : (c : Bool) (names : List Name) (name : Name) → length names ≤ length (if c then names else names ++ name ∷ [])
name_by true names name = omega arith
name_by false names name = omega (arith, length-append names (name ∷ []))

name_grows : Grows with_name
unfolding with_name
name_grows names name = name_by (has names name) names name

each_grows : {A : Type 0} (add : List Name → A → List Name) → Grows add → (names : List Name) (xs : List A) → length names ≤ length (with_each add names xs)
each_grows add grows names [] = omega arith
each_grows add grows names (x ∷ xs) =
    let a : length names ≤ length (add names x) = grows names x in
    let b : length (add names x) ≤ length (with_each add (add names x) xs) = each_grows add grows (add names x) xs in omega arith

target_by_grows : (inner : List Name → TargetExpr → List Name) → Grows inner → (names : List Name) (o : TargetLayer) → length names ≤ length (with_target_by inner names o)
target_by_grows inner grows names (TargetExpr-F.TargetExpr::Name n) = name_grows names n.name
target_by_grows inner grows names (TargetExpr-F.TargetExpr::Index x i) = omega arith
target_by_grows inner grows names (TargetExpr-F.TargetExpr::Tuple ts) = each_grows inner grows names ts
target_by_grows inner grows names (TargetExpr-F.TargetExpr::List ts) = each_grows inner grows names ts

target_to_grows : (depth : ℕ) → Grows (with_target_to depth)
unfolding with_target_to
target_to_grows zero names t = omega arith
target_to_grows (suc depth) names t = target_by_grows (with_target_to depth) (target_to_grows depth) names (out-TargetExpr t)

target_grows : Grows with_target
unfolding with_target
target_grows names t = target_to_grows max_layers names t

small_by_grows : (names : List Name) (k : SmallKind) → length names ≤ length (with_small_by names k)
small_by_grows names (small.Assign t e) = target_grows names t
small_by_grows names (small.Augment t o e) = target_grows names t
small_by_grows names (small.Expr e) = omega arith
small_by_grows names (small.Return e) = omega arith
small_by_grows names small.Break = omega arith
small_by_grows names small.Continue = omega arith
small_by_grows names small.Pass = omega arith
small_by_grows names (small.Load l) = omega arith

small_grows : Grows with_small
unfolding with_small
small_grows names x = small_by_grows names x.kind

stmt_by_grows : (inner : List Name → Stmt → List Name) → Grows inner → (names : List Name) (o : Stmt-F Stmt Branch) → length names ≤ length (with_stmt_by inner names o)
stmt_by_grows inner grows names (Stmt-F.Simple xs) = each_grows with_small small_grows names xs
stmt_by_grows inner grows names (Stmt-F.If bs zs) =
    let a : length names ≤ length (with_each (with_branch inner) names bs) = each_grows (with_branch inner) (λ ns b. each_grows inner grows ns (out-Branch b).block) names bs in
    let b : length (with_each (with_branch inner) names bs) ≤ length (with_each inner (with_each (with_branch inner) names bs) zs) = each_grows inner grows (with_each (with_branch inner) names bs) zs in omega arith
stmt_by_grows inner grows names (Stmt-F.For t e xs) =
    let a : length names ≤ length (with_target names t) = target_grows names t in
    let b : length (with_target names t) ≤ length (with_each inner (with_target names t) xs) = each_grows inner grows (with_target names t) xs in omega arith
stmt_by_grows inner grows names (Stmt-F.Def n ps xs) = name_grows names n.name

stmt_to_grows : (depth : ℕ) → Grows (with_stmt_to depth)
unfolding with_stmt_to
stmt_to_grows zero names x = omega arith
stmt_to_grows (suc depth) names x = stmt_by_grows (with_stmt_to depth) (stmt_to_grows depth) names (out-Stmt x)

stmt_grows : Grows with_stmt
unfolding with_stmt
stmt_grows names x = stmt_to_grows max_layers names x

pub parameters_among : (ps : List Parameter) (body : List Stmt) → length (with_each with_parameter [] ps) ≤ length (function_names ps body)
unfolding function_names
parameters_among ps body = each_grows with_stmt stmt_grows (with_each with_parameter [] ps) body
