-- A file binds each of its globals once, so each is at its own place.
use Rattle.std.proofs.Common.{◌≡◌, ◌⊎◌, inl, inr, ℕ, zero, suc, Bool, true, false, List, [], ◌∷◌, ◌++◌, length, Some, slice_get, refl, sym, ap, subst}
use Rattle.std.specs.Prelude.{if◌then◌else◌}
use Rattle.bq_parse_grammar.specs.declared.tree.Argument.TheOpen.{TargetExpr-F}
use Rattle.bq_parse_grammar.specs.declared.tree.Branch.{Branch, out-Branch}
use Rattle.bq_parse_grammar.specs.declared.tree.SmallKind.{SmallKind}
use Rattle.bq_parse_grammar.specs.declared.tree.SmallKind.TheVariants as small
use Rattle.bq_parse_grammar.specs.declared.tree.Stmt.{Stmt, out-Stmt}
use Rattle.bq_parse_grammar.specs.declared.tree.Stmt.TheOpen.{Stmt-F}
use Rattle.bq_parse_grammar.specs.declared.tree.TargetExpr.{TargetExpr, out-TargetExpr}
use Rattle.bq_parse_grammar.specs.declared.tree.TopLevel.{TopLevel}
use Rattle.bq_resolve_scope.specs.Names.{Name, TargetLayer, max_layers, has, place_among, with_name, with_each, with_target_by, with_target_to, with_target, with_small, with_branch, with_stmt_by, with_stmt_to, with_stmt, global_names}
use Rattle.bq_resolve_scope.proofs.Cases.{with_small_by}
use Rattle.bq_eval_by_name.proofs.Places.{Stays, new_place, name_stays}

-- each name is the first of its own kind
abbrev pub Once : List Name → Type 0
Once names = (i : ℕ) (name : Name) → slice_get names i ≡ Some name → place_among name names ≡ Some i

abbrev Keeps : {A : Type 0} → (List Name → A → List Name) → Type 0
Keeps {A = A} add = (names : List Name) (x : A) → Once names → Once (add names x)

-- what is in the longer list was in the shorter one, or is the last
among : (names : List Name) (n : Name) (i : ℕ) (name : Name) → slice_get (names ++ n ∷ []) i ≡ Some name → ((name ≡ n) × (i ≡ length names)) ⊎ (slice_get names i ≡ Some name)
among [] n zero name e = inl (cc, refl)
among [] n (suc i) name e = absurd (let no : ⊥ = cc in no)
among (x ∷ xs) n zero name e = inr e
among (x ∷ xs) n (suc i) name e = elim (among xs n i name e) [
  | inl h ↦ inl (h.0, ap suc h.1)
  | inr h ↦ inr h
]

-- a name that is there stays in its place
new_stays : (t : Bool) (names : List Name) (n : Name) → t ≡ false → Stays names (if t then names else names ++ n ∷ []) → Stays names (names ++ n ∷ [])
new_stays true names n e h = absurd (let no : ⊥ = cc in no)
new_stays false names n e h = h

last_stays : (names : List Name) (n : Name) → has names n ≡ false → Stays names (names ++ n ∷ [])
unfolding with_name
last_stays names n e = new_stays (has names n) names n e (name_stays names n)

new_once : (names : List Name) (n : Name) → has names n ≡ false → Once names → Once (names ++ n ∷ [])
new_once names n e once i name at = elim (among names n i name at) [
  | inl h ↦ subst (λ k. place_among name (names ++ n ∷ []) ≡ Some k) (sym h.1) (subst (λ m. place_among m (names ++ n ∷ []) ≡ Some (length names)) (sym h.0) (new_place names n e))
  | inr h ↦ last_stays names n e name i (once i name h)
]

name_by : (t : Bool) (names : List Name) (n : Name) → has names n ≡ t → Once names → Once (if t then names else names ++ n ∷ [])
name_by true names n e once = once
name_by false names n e once = new_once names n e once

name_once : Keeps with_name
unfolding with_name
name_once names n once = name_by (has names n) names n refl once

each_once : {A : Type 0} (add : List Name → A → List Name) → Keeps add → (names : List Name) (xs : List A) → Once names → Once (with_each add names xs)
each_once add keeps names [] once = once
each_once add keeps names (x ∷ xs) once = each_once add keeps (add names x) xs (keeps names x once)

target_by_once : (inner : List Name → TargetExpr → List Name) → Keeps inner → (names : List Name) (o : TargetLayer) → Once names → Once (with_target_by inner names o)
target_by_once inner keeps names (TargetExpr-F.TargetExpr::Name n) once = name_once names n.name once
target_by_once inner keeps names (TargetExpr-F.TargetExpr::Index x i) once = once
target_by_once inner keeps names (TargetExpr-F.TargetExpr::Tuple ts) once = each_once inner keeps names ts once
target_by_once inner keeps names (TargetExpr-F.TargetExpr::List ts) once = each_once inner keeps names ts once

target_to_once : (depth : ℕ) → Keeps (with_target_to depth)
unfolding with_target_to
target_to_once zero names t once = once
target_to_once (suc depth) names t once = target_by_once (with_target_to depth) (target_to_once depth) names (out-TargetExpr t) once

target_once : Keeps with_target
unfolding with_target
target_once names t once = target_to_once max_layers names t once

small_by_once : (names : List Name) (k : SmallKind) → Once names → Once (with_small_by names k)
small_by_once names (small.Assign t x) once = target_once names t once
small_by_once names (small.Augment t o x) once = target_once names t once
small_by_once names (small.Expr x) once = once
small_by_once names (small.Return x) once = once
small_by_once names small.Break once = once
small_by_once names small.Continue once = once
small_by_once names small.Pass once = once
small_by_once names (small.Load l) once = once

small_once : Keeps with_small
unfolding with_small
small_once names x once = small_by_once names x.kind once

stmt_by_once : (inner : List Name → Stmt → List Name) → Keeps inner → (names : List Name) (o : Stmt-F Stmt Branch) → Once names → Once (with_stmt_by inner names o)
stmt_by_once inner keeps names (Stmt-F.Simple xs) once = each_once with_small small_once names xs once
stmt_by_once inner keeps names (Stmt-F.If bs zs) once =
    each_once inner keeps (with_each (with_branch inner) names bs) zs (each_once (with_branch inner) (λ ns b. each_once inner keeps ns (out-Branch b).block) names bs once)
stmt_by_once inner keeps names (Stmt-F.For t x body) once = each_once inner keeps (with_target names t) body (target_once names t once)
stmt_by_once inner keeps names (Stmt-F.Def n ps body) once = name_once names n.name once

stmt_to_once : (depth : ℕ) → Keeps (with_stmt_to depth)
unfolding with_stmt_to
stmt_to_once zero names x once = once
stmt_to_once (suc depth) names x once = stmt_by_once (with_stmt_to depth) (stmt_to_once depth) names (out-Stmt x) once

stmt_once : Keeps with_stmt
unfolding with_stmt
stmt_once names x once = stmt_to_once max_layers names x once

none_once : Once []
none_once i name e = absurd (let no : ⊥ = cc in no)

pub globals_once : (ts : List TopLevel) → Once (global_names ts)
unfolding global_names
globals_once ts = each_once (λ names t. with_stmt names t.statement) (λ names t. stmt_once names t.statement) [] ts none_once
