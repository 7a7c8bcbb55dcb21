-- A name stays in its place as more names are bound, so a function's parameters have its first places.
use Rattle.std.proofs.Common.{◌≡◌, ℕ, zero, suc, Bool, true, false, cond, ◌||◌, List, [], ◌∷◌, ◌++◌, length, Option, Some, None, bytes_eq, refl}
use Rattle.std.specs.Prelude.{if◌then◌else◌}
use Rattle.std.specs.Option.{option_map}
use Rattle.std.proofs.lemmas.Slice.Eq.{bytes_eq-Decides}
use Rattle.bq_parse_grammar.specs.declared.tree.Argument.TheOpen.{TargetExpr-F}
use Rattle.bq_parse_grammar.specs.declared.tree.Branch.{Branch, out-Branch}
use Rattle.bq_parse_grammar.specs.declared.tree.Parameter.{Parameter}
use Rattle.bq_parse_grammar.specs.declared.tree.Parameter.TheVariants as parameter
use Rattle.bq_parse_grammar.specs.declared.tree.SmallKind.{SmallKind}
use Rattle.bq_parse_grammar.specs.declared.tree.SmallKind.TheVariants as small
use Rattle.bq_parse_grammar.specs.declared.tree.Stmt.{Stmt, out-Stmt}
use Rattle.bq_parse_grammar.specs.declared.tree.Stmt.TheOpen.{Stmt-F}
use Rattle.bq_parse_grammar.specs.declared.tree.TargetExpr.{TargetExpr, out-TargetExpr}
use Rattle.bq_resolve_scope.specs.Names.{Name, TargetLayer, max_layers, has, place_among, with_name, with_each, with_target_by, with_target_to, with_target, with_small, with_branch, with_stmt_by, with_stmt_to, with_stmt, with_parameter, function_names}
use Rattle.bq_resolve_scope.proofs.Cases.{with_small_by}

abbrev pub Stays : List Name → List Name → Type 0
Stays names more = (name : Name) (i : ℕ) → place_among name names ≡ Some i → place_among name more ≡ Some i

abbrev pub Adds : {A : Type 0} → (List Name → A → List Name) → Type 0
Adds {A = A} add = (names : List Name) (x : A) → Stays names (add names x)

pub stays_then : (a b d : List Name) → Stays a b → Stays b d → Stays a d
stays_then a b d h k name i e = k name i (h name i e)

-- ---- one name more

last_by : (t : Bool) (o p : Option ℕ) (i : ℕ) → ((j : ℕ) → o ≡ Some j → p ≡ Some j) → cond t (Some 0) (option_map suc o) ≡ Some i → cond t (Some 0) (option_map suc p) ≡ Some i
last_by true o p i h e = e
last_by false None p i h e = absurd (let no : ⊥ = cc in no)
last_by false (Some j) p i h e = rw (h j refl) e

last_stays : (names : List Name) (n : Name) → Stays names (names ++ n ∷ [])
unfolding place_among
last_stays [] n name i e = absurd (let no : ⊥ = cc in no)
last_stays (x ∷ xs) n name i e = last_by (bytes_eq name x) (place_among name xs) (place_among name (xs ++ n ∷ [])) i (λ j g. last_stays xs n name j g) e

new_by : (t rest : Bool) (o : Option ℕ) (k : ℕ) → (t || rest) ≡ false → (rest ≡ false → o ≡ Some k) → cond t (Some 0) (option_map suc o) ≡ Some (suc k)
new_by true rest o k e h = absurd (let no : ⊥ = cc in no)
new_by false rest o k e h = rw (h e) refl

-- a new name comes last
pub new_place : (names : List Name) (n : Name) → has names n ≡ false → place_among n (names ++ n ∷ []) ≡ Some (length names)
unfolding place_among
new_place [] n e = rw ((bytes_eq-Decides n n).1 refl) refl
new_place (x ∷ xs) n e = new_by (bytes_eq n x) (has xs n) (place_among n (xs ++ n ∷ [])) (length xs) e (new_place xs n)

name_by : (t : Bool) (names : List Name) (n : Name) → Stays names (if t then names else names ++ n ∷ [])
name_by true names n name i e = e
name_by false names n name i e = last_stays names n name i e

pub name_stays : Adds with_name
unfolding with_name
name_stays names n = name_by (has names n) names n

pub each_stays : {A : Type 0} (add : List Name → A → List Name) → Adds {A = A} add → (names : List Name) (xs : List A) → Stays names (with_each add names xs)
each_stays add one names [] name i e = e
each_stays add one names (x ∷ xs) name i e = each_stays add one (add names x) xs name i (one names x name i e)

-- ---- targets and statements

target_by_stays : (inner : List Name → TargetExpr → List Name) → Adds inner → (names : List Name) (o : TargetLayer) → Stays names (with_target_by inner names o)
target_by_stays inner one names (TargetExpr-F.TargetExpr::Name n) = name_stays names n.name
target_by_stays inner one names (TargetExpr-F.TargetExpr::Index x i) = λ name k e. e
target_by_stays inner one names (TargetExpr-F.TargetExpr::Tuple ts) = each_stays inner one names ts
target_by_stays inner one names (TargetExpr-F.TargetExpr::List ts) = each_stays inner one names ts

target_to_stays : (depth : ℕ) → Adds (with_target_to depth)
unfolding with_target_to
target_to_stays zero names t = λ name k e. e
target_to_stays (suc depth) names t = target_by_stays (with_target_to depth) (target_to_stays depth) names (out-TargetExpr t)

target_stays : Adds with_target
unfolding with_target
target_stays names t = target_to_stays max_layers names t

small_by_stays : (names : List Name) (k : SmallKind) → Stays names (with_small_by names k)
small_by_stays names (small.Assign t x) = target_stays names t
small_by_stays names (small.Augment t o x) = target_stays names t
small_by_stays names (small.Expr x) = λ name k e. e
small_by_stays names (small.Return x) = λ name k e. e
small_by_stays names small.Break = λ name k e. e
small_by_stays names small.Continue = λ name k e. e
small_by_stays names small.Pass = λ name k e. e
small_by_stays names (small.Load l) = λ name k e. e

small_stays : Adds with_small
unfolding with_small
small_stays names x = small_by_stays names x.kind

branch_stays : (inner : List Name → Stmt → List Name) → Adds inner → Adds (with_branch inner)
branch_stays inner one names b = each_stays inner one names (out-Branch b).block

stmt_by_stays : (inner : List Name → Stmt → List Name) → Adds inner → (names : List Name) (o : Stmt-F Stmt Branch) → Stays names (with_stmt_by inner names o)
stmt_by_stays inner one names (Stmt-F.Simple xs) = each_stays with_small small_stays names xs
stmt_by_stays inner one names (Stmt-F.If bs zs) =
    let between : List Name = with_each (with_branch inner) names bs in
    stays_then names between (with_each inner between zs) (each_stays (with_branch inner) (branch_stays inner one) names bs) (each_stays inner one between zs)
stmt_by_stays inner one names (Stmt-F.For t x body) =
    stays_then names (with_target names t) (with_each inner (with_target names t) body) (target_stays names t) (each_stays inner one (with_target names t) body)
stmt_by_stays inner one names (Stmt-F.Def n ps body) = name_stays names n.name

stmt_to_stays : (depth : ℕ) → Adds (with_stmt_to depth)
unfolding with_stmt_to
stmt_to_stays zero names x = λ name k e. e
stmt_to_stays (suc depth) names x = stmt_by_stays (with_stmt_to depth) (stmt_to_stays depth) names (out-Stmt x)

stmt_stays : Adds with_stmt
unfolding with_stmt
stmt_stays names x = stmt_to_stays max_layers names x

-- ---- parameters

pub parameter_stays : Adds with_parameter
parameter_stays names (parameter.Plain n) = name_stays names n.name
parameter_stays names (parameter.Default n x) = name_stays names n.name
parameter_stays names parameter.BareStar = λ name k e. e
parameter_stays names (parameter.Star n) = name_stays names n.name
parameter_stays names (parameter.StarStar n) = name_stays names n.name

pub parameters_stay : (ps : List Parameter) (body : List Stmt) → Stays (with_each with_parameter [] ps) (function_names ps body)
unfolding function_names
parameters_stay ps body = each_stays with_stmt stmt_stays (with_each with_parameter [] ps) body
