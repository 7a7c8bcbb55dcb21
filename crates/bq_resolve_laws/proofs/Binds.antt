-- The names of a block are those that are bound in it.
use Rattle.std.proofs.Common.{◌≡◌, ℕ, zero, suc, Bool, true, false, List, [], ◌∷◌, ◌++◌, ◌⊎◌, inl, inr, ◌||◌, refl, sym, subst, bytes_eq}
use Rattle.std.specs.Prelude.{if◌then◌else◌}
use Rattle.std.proofs.lemmas.Slice.Eq.{bytes_eq-Decides}
use Rattle.bq_parse_grammar.specs.declared.tree.Argument.TheOpen.{Clause-F, TargetExpr-F}
use Rattle.bq_parse_grammar.specs.declared.tree.Branch.{Branch, out-Branch}
use Rattle.bq_parse_grammar.specs.declared.tree.Clause.{out-Clause}
use Rattle.bq_parse_grammar.specs.declared.tree.Parameter.{Parameter}
use Rattle.bq_parse_grammar.specs.declared.tree.Parameter.TheVariants as parameter
use Rattle.bq_parse_grammar.specs.declared.tree.SmallKind.{SmallKind}
use Rattle.bq_parse_grammar.specs.declared.tree.SmallKind.TheVariants as small
use Rattle.bq_parse_grammar.specs.declared.tree.Stmt.{Stmt, out-Stmt}
use Rattle.bq_parse_grammar.specs.declared.tree.Stmt.TheOpen.{Stmt-F}
use Rattle.bq_parse_grammar.specs.declared.tree.TargetExpr.{TargetExpr, out-TargetExpr}
use Rattle.bq_parse_grammar.specs.declared.tree.TopLevel.{TopLevel}
use Rattle.bq_resolve_scope.specs.Names.{Name, TargetLayer, ClauseLayer, max_layers, has, with_name, with_each, with_target_by, with_target_to, with_target, with_clause, comprehension_names, with_small, with_branch, with_stmt_by, with_stmt_to, with_stmt, with_parameter, function_names, global_names, with_load_clause, with_load, with_loads, loaded_names, with_loads_by, with_clause_by}
use Rattle.bq_resolve_scope.proofs.Cases.{with_small_by, with_load_by}
use Rattle.bq_resolve_laws.specs.Binds.{AnyOf, target_binds_by, TargetBindsTo, TargetBinds, clause_binds_by, ClauseBinds, kind_binds, SmallBinds, stmt_binds_by, StmtBindsTo, StmtBinds, ParameterBinds, load_binds_by, loads_bind_by, ComprehensionBinds, FunctionBinds, FileBinds, LoadsBind}

-- the names hold this one
abbrev Held : List Name → Name → Type 0
Held names name = has names name ≡ true

-- what the addition adds to the names
record Adds {A : Type 0} (add : List Name → A → List Name) (Binds : Name → A → Type 0) : Type 0 where
  from : (names : List Name) (x : A) (name : Name) → Held (add names x) name → Held names name ⊎ Binds name x
  into : (names : List Name) (x : A) (name : Name) → Held names name ⊎ Binds name x → Held (add names x) name

-- ---- one name

either : (a b : Bool) → (a || b) ≡ true → (a ≡ true) ⊎ (b ≡ true)
either true b h = inl refl
either false b h = inr h

left_or : (a b : Bool) → a ≡ true → (a || b) ≡ true
left_or true b h = refl
left_or false b h = absurd (let no : ⊥ = cc in no)

right_or : (a b : Bool) → b ≡ true → (a || b) ≡ true
right_or true b h = refl
right_or false b h = h

last_by : (a : Bool) (names : List Name) (n name : Name) → (Held (names ++ n ∷ []) name → Held names name ⊎ (name ≡ n)) → (a || has (names ++ n ∷ []) name) ≡ true → ((a || has names name) ≡ true) ⊎ (name ≡ n)
last_by true names n name rest h = inl refl
last_by false names n name rest h = rest h

single : (n name : Name) (a : Bool) → bytes_eq name n ≡ a → (a || false) ≡ true → name ≡ n
single n name true e h = (bytes_eq-Decides name n).0 e
single n name false e h = absurd (let no : ⊥ = cc in no)

last_from : (names : List Name) (n name : Name) → Held (names ++ n ∷ []) name → Held names name ⊎ (name ≡ n)
last_from [] n name h = inr (single n name (bytes_eq name n) refl h)
last_from (x ∷ xs) n name h = last_by (bytes_eq name x) xs n name (last_from xs n name) h

last_into : (names : List Name) (n name : Name) → Held names name ⊎ (name ≡ n) → Held (names ++ n ∷ []) name
last_into [] n name (inl h) = absurd (let no : ⊥ = cc in no)
last_into [] n name (inr e) = left_or (bytes_eq name n) false ((bytes_eq-Decides name n).1 e)
last_into (x ∷ xs) n name (inl h) =
    elim (either (bytes_eq name x) (has xs name) h) [
      | inl a ↦ left_or (bytes_eq name x) (has (xs ++ n ∷ []) name) a
      | inr a ↦ right_or (bytes_eq name x) (has (xs ++ n ∷ []) name) (last_into xs n name (inl a))
    ]
last_into (x ∷ xs) n name (inr e) = right_or (bytes_eq name x) (has (xs ++ n ∷ []) name) (last_into xs n name (inr e))

name_from : (a : Bool) (names : List Name) (n name : Name) → has names n ≡ a → Held (if a then names else names ++ n ∷ []) name → Held names name ⊎ (name ≡ n)
name_from true names n name d h = inl h
name_from false names n name d h = last_from names n name h

name_into : (a : Bool) (names : List Name) (n name : Name) → has names n ≡ a → Held names name ⊎ (name ≡ n) → Held (if a then names else names ++ n ∷ []) name
name_into true names n name d (inl h) = h
name_into true names n name d (inr e) = subst (λ m. Held names m) (sym e) d
name_into false names n name d h = last_into names n name h

name_adds : Adds with_name (λ name n. name ≡ n)
unfolding with_name
name_adds = record {
  from = λ names n name h. name_from (has names n) names n name refl h;
  into = λ names n name h. name_into (has names n) names n name refl h;
}

-- ---- lists

join : {P Q R S : Type 0} → (P → Q ⊎ R) → P ⊎ S → Q ⊎ (R ⊎ S)
join first (inl p) = elim (first p) [ inl q ↦ inl q | inr r ↦ inr (inl r) ]
join first (inr s) = inr (inr s)

each_from : {A : Type 0} (add : List Name → A → List Name) (Binds : Name → A → Type 0) → Adds add Binds → (xs : List A) (names : List Name) (name : Name)
    → Held (with_each add names xs) name → Held names name ⊎ AnyOf (Binds name) xs
each_from add Binds adds [] names name h = inl h
each_from add Binds adds (x ∷ xs) names name h = join (adds.from names x name) (each_from add Binds adds xs (add names x) name h)

each_into : {A : Type 0} (add : List Name → A → List Name) (Binds : Name → A → Type 0) → Adds add Binds → (xs : List A) (names : List Name) (name : Name)
    → Held names name ⊎ AnyOf (Binds name) xs → Held (with_each add names xs) name
each_into add Binds adds [] names name (inl h) = h
each_into add Binds adds [] names name (inr b) = absurd b
each_into add Binds adds (x ∷ xs) names name (inl h) = each_into add Binds adds xs (add names x) name (inl (adds.into names x name (inl h)))
each_into add Binds adds (x ∷ xs) names name (inr (inl b)) = each_into add Binds adds xs (add names x) name (inl (adds.into names x name (inr b)))
each_into add Binds adds (x ∷ xs) names name (inr (inr b)) = each_into add Binds adds xs (add names x) name (inr b)

each_adds : {A : Type 0} (add : List Name → A → List Name) (Binds : Name → A → Type 0) → Adds add Binds → Adds (with_each add) (λ name xs. AnyOf (Binds name) xs)
each_adds add Binds adds = record {
  from = λ names xs name h. each_from add Binds adds xs names name h;
  into = λ names xs name h. each_into add Binds adds xs names name h;
}

-- nothing is added
kept : {P : Type 0} → P ⊎ ⊥ → P
kept (inl p) = p
kept (inr b) = absurd b

-- ---- targets

target_from : (inner : List Name → TargetExpr → List Name) (Binds : Name → TargetExpr → Type 0) → Adds inner Binds → (names : List Name) (o : TargetLayer) (name : Name)
    → Held (with_target_by inner names o) name → Held names name ⊎ target_binds_by (Binds name) name o
target_from inner Binds adds names (TargetExpr-F.TargetExpr::Name n) name h = name_adds.from names n.name name h
target_from inner Binds adds names (TargetExpr-F.TargetExpr::Index x i) name h = inl h
target_from inner Binds adds names (TargetExpr-F.TargetExpr::Tuple ts) name h = each_from inner Binds adds ts names name h
target_from inner Binds adds names (TargetExpr-F.TargetExpr::List ts) name h = each_from inner Binds adds ts names name h

target_into : (inner : List Name → TargetExpr → List Name) (Binds : Name → TargetExpr → Type 0) → Adds inner Binds → (names : List Name) (o : TargetLayer) (name : Name)
    → Held names name ⊎ target_binds_by (Binds name) name o → Held (with_target_by inner names o) name
target_into inner Binds adds names (TargetExpr-F.TargetExpr::Name n) name h = name_adds.into names n.name name h
target_into inner Binds adds names (TargetExpr-F.TargetExpr::Index x i) name h = kept h
target_into inner Binds adds names (TargetExpr-F.TargetExpr::Tuple ts) name h = each_into inner Binds adds ts names name h
target_into inner Binds adds names (TargetExpr-F.TargetExpr::List ts) name h = each_into inner Binds adds ts names name h

target_to_adds : (layers : ℕ) → Adds (with_target_to layers) (TargetBindsTo layers)
unfolding with_target_to TargetBindsTo
target_to_adds zero = record { from = λ names t name h. inl h; into = λ names t name h. kept h }
target_to_adds (suc layers) = record {
  from = λ names t name h. target_from (with_target_to layers) (TargetBindsTo layers) (target_to_adds layers) names (out-TargetExpr t) name h;
  into = λ names t name h. target_into (with_target_to layers) (TargetBindsTo layers) (target_to_adds layers) names (out-TargetExpr t) name h;
}

target_adds : Adds with_target TargetBinds
unfolding with_target TargetBinds
target_adds = record {
  from = λ names t name h. (target_to_adds max_layers).from names t name h;
  into = λ names t name h. (target_to_adds max_layers).into names t name h;
}

clause_from : (names : List Name) (o : ClauseLayer) (name : Name) → Held (with_clause_by names o) name → Held names name ⊎ clause_binds_by name o
clause_from names (Clause-F.For t x) name h = target_adds.from names t name h
clause_from names (Clause-F.If x) name h = inl h

clause_into : (names : List Name) (o : ClauseLayer) (name : Name) → Held names name ⊎ clause_binds_by name o → Held (with_clause_by names o) name
clause_into names (Clause-F.For t x) name h = target_adds.into names t name h
clause_into names (Clause-F.If x) name h = kept h

clause_adds : Adds with_clause ClauseBinds
unfolding with_clause ClauseBinds
clause_adds = record { from = λ names c name h. clause_from names (out-Clause c) name h; into = λ names c name h. clause_into names (out-Clause c) name h }

-- ---- statements

small_from : (names : List Name) (k : SmallKind) (name : Name) → Held (with_small_by names k) name → Held names name ⊎ kind_binds name k
small_from names (small.Assign t x) name h = target_adds.from names t name h
small_from names (small.Augment t o x) name h = target_adds.from names t name h
small_from names (small.Expr x) name h = inl h
small_from names (small.Return x) name h = inl h
small_from names small.Break name h = inl h
small_from names small.Continue name h = inl h
small_from names small.Pass name h = inl h
small_from names (small.Load l) name h = inl h

small_into : (names : List Name) (k : SmallKind) (name : Name) → Held names name ⊎ kind_binds name k → Held (with_small_by names k) name
small_into names (small.Assign t x) name h = target_adds.into names t name h
small_into names (small.Augment t o x) name h = target_adds.into names t name h
small_into names (small.Expr x) name h = kept h
small_into names (small.Return x) name h = kept h
small_into names small.Break name h = kept h
small_into names small.Continue name h = kept h
small_into names small.Pass name h = kept h
small_into names (small.Load l) name h = kept h

small_adds : Adds with_small SmallBinds
unfolding with_small SmallBinds
small_adds = record { from = λ names x name h. small_from names x.kind name h; into = λ names x name h. small_into names x.kind name h }

split_sum : {P Q R S : Type 0} → (P ⊎ Q → R) → P ⊎ (Q ⊎ S) → R ⊎ S
split_sum first (inl p) = inl (first (inl p))
split_sum first (inr (inl q)) = inl (first (inr q))
split_sum first (inr (inr s)) = inr s

module _ (inner : List Name → Stmt → List Name) (Binds : Name → Stmt → Type 0) (adds : Adds inner Binds) where
  block_adds : Adds (with_branch inner) (λ name b. AnyOf (Binds name) (out-Branch b).block)
  block_adds = record {
    from = λ names b name h. each_from inner Binds adds (out-Branch b).block names name h;
    into = λ names b name h. each_into inner Binds adds (out-Branch b).block names name h;
  }

  stmt_from : (names : List Name) (o : Stmt-F Stmt Branch) (name : Name) → Held (with_stmt_by inner names o) name → Held names name ⊎ stmt_binds_by (Binds name) name o
  stmt_from names (Stmt-F.Simple xs) name h = each_from with_small SmallBinds small_adds xs names name h
  stmt_from names (Stmt-F.If bs zs) name h =
      join (each_from (with_branch inner) (λ m b. AnyOf (Binds m) (out-Branch b).block) block_adds bs names name)
      (each_from inner Binds adds zs (with_each (with_branch inner) names bs) name h)
  stmt_from names (Stmt-F.For t x xs) name h = join (target_adds.from names t name) (each_from inner Binds adds xs (with_target names t) name h)
  stmt_from names (Stmt-F.Def n ps xs) name h = name_adds.from names n.name name h

  stmt_into : (names : List Name) (o : Stmt-F Stmt Branch) (name : Name) → Held names name ⊎ stmt_binds_by (Binds name) name o → Held (with_stmt_by inner names o) name
  stmt_into names (Stmt-F.Simple xs) name h = each_into with_small SmallBinds small_adds xs names name h
  stmt_into names (Stmt-F.If bs zs) name h =
      each_into inner Binds adds zs (with_each (with_branch inner) names bs) name
      (split_sum (each_into (with_branch inner) (λ m b. AnyOf (Binds m) (out-Branch b).block) block_adds bs names name) h)
  stmt_into names (Stmt-F.For t x xs) name h = each_into inner Binds adds xs (with_target names t) name (split_sum (target_adds.into names t name) h)
  stmt_into names (Stmt-F.Def n ps xs) name h = name_adds.into names n.name name h

stmt_to_adds : (layers : ℕ) → Adds (with_stmt_to layers) (StmtBindsTo layers)
unfolding with_stmt_to StmtBindsTo
stmt_to_adds zero = record { from = λ names x name h. inl h; into = λ names x name h. kept h }
stmt_to_adds (suc layers) = record {
  from = λ names x name h. stmt_from (with_stmt_to layers) (StmtBindsTo layers) (stmt_to_adds layers) names (out-Stmt x) name h;
  into = λ names x name h. stmt_into (with_stmt_to layers) (StmtBindsTo layers) (stmt_to_adds layers) names (out-Stmt x) name h;
}

stmt_adds : Adds with_stmt StmtBinds
unfolding with_stmt StmtBinds
stmt_adds = record {
  from = λ names x name h. (stmt_to_adds max_layers).from names x name h;
  into = λ names x name h. (stmt_to_adds max_layers).into names x name h;
}

-- ---- functions and files

parameter_from : (names : List Name) (p : Parameter) (name : Name) → Held (with_parameter names p) name → Held names name ⊎ ParameterBinds name p
parameter_from names (parameter.Plain n) name h = name_adds.from names n.name name h
parameter_from names (parameter.Default n x) name h = name_adds.from names n.name name h
parameter_from names parameter.BareStar name h = inl h
parameter_from names (parameter.Star n) name h = name_adds.from names n.name name h
parameter_from names (parameter.StarStar n) name h = name_adds.from names n.name name h

parameter_into : (names : List Name) (p : Parameter) (name : Name) → Held names name ⊎ ParameterBinds name p → Held (with_parameter names p) name
parameter_into names (parameter.Plain n) name h = name_adds.into names n.name name h
parameter_into names (parameter.Default n x) name h = name_adds.into names n.name name h
parameter_into names parameter.BareStar name h = kept h
parameter_into names (parameter.Star n) name h = name_adds.into names n.name name h
parameter_into names (parameter.StarStar n) name h = name_adds.into names n.name name h

parameter_adds : Adds with_parameter ParameterBinds
parameter_adds = record { from = parameter_from; into = parameter_into }

load_clause_adds : Adds with_load_clause (λ name c. name ≡ c.local.name)
load_clause_adds = record { from = λ names c name h. name_adds.from names c.local.name name h; into = λ names c name h. name_adds.into names c.local.name name h }

load_from : (names : List Name) (k : SmallKind) (name : Name) → Held (with_load_by names k) name → Held names name ⊎ load_binds_by name k
load_from names (small.Load l) name h = each_from with_load_clause (λ m c. m ≡ c.local.name) load_clause_adds l.clauses names name h
load_from names (small.Assign t x) name h = inl h
load_from names (small.Augment t o x) name h = inl h
load_from names (small.Expr x) name h = inl h
load_from names (small.Return x) name h = inl h
load_from names small.Break name h = inl h
load_from names small.Continue name h = inl h
load_from names small.Pass name h = inl h

load_into : (names : List Name) (k : SmallKind) (name : Name) → Held names name ⊎ load_binds_by name k → Held (with_load_by names k) name
load_into names (small.Load l) name h = each_into with_load_clause (λ m c. m ≡ c.local.name) load_clause_adds l.clauses names name h
load_into names (small.Assign t x) name h = kept h
load_into names (small.Augment t o x) name h = kept h
load_into names (small.Expr x) name h = kept h
load_into names (small.Return x) name h = kept h
load_into names small.Break name h = kept h
load_into names small.Continue name h = kept h
load_into names small.Pass name h = kept h

load_adds : Adds with_load (λ name x. load_binds_by name x.kind)
unfolding with_load
load_adds = record { from = λ names x name h. load_from names x.kind name h; into = λ names x name h. load_into names x.kind name h }

loads_from : (names : List Name) (o : Stmt-F Stmt Branch) (name : Name) → Held (with_loads_by names o) name → Held names name ⊎ loads_bind_by name o
loads_from names (Stmt-F.Simple xs) name h = each_from with_load (λ m x. load_binds_by m x.kind) load_adds xs names name h
loads_from names (Stmt-F.If bs zs) name h = inl h
loads_from names (Stmt-F.For t x xs) name h = inl h
loads_from names (Stmt-F.Def n ps xs) name h = inl h

loads_into : (names : List Name) (o : Stmt-F Stmt Branch) (name : Name) → Held names name ⊎ loads_bind_by name o → Held (with_loads_by names o) name
loads_into names (Stmt-F.Simple xs) name h = each_into with_load (λ m x. load_binds_by m x.kind) load_adds xs names name h
loads_into names (Stmt-F.If bs zs) name h = kept h
loads_into names (Stmt-F.For t x xs) name h = kept h
loads_into names (Stmt-F.Def n ps xs) name h = kept h

loads_adds : Adds with_loads (λ name t. loads_bind_by name (out-Stmt t.statement))
unfolding with_loads
loads_adds = record { from = λ names t name h. loads_from names (out-Stmt t.statement) name h; into = λ names t name h. loads_into names (out-Stmt t.statement) name h }

-- the names of a file, with those that a statement outside functions binds
abbrev with_top : List Name → TopLevel → List Name
with_top names t = with_stmt names t.statement

-- a statement outside functions binds the name
abbrev TopBinds : Name → TopLevel → Type 0
TopBinds name t = StmtBinds name t.statement

top_adds : Adds with_top TopBinds
top_adds = record { from = λ names t name h. stmt_adds.from names t.statement name h; into = λ names t name h. stmt_adds.into names t.statement name h }

-- of no names before
nothing_before : {P : Type 0} (name : Name) → Held [] name ⊎ P → P
nothing_before name (inl h) = absurd (let no : ⊥ = cc in no)
nothing_before name (inr p) = p

pub comprehension_binds : ComprehensionBinds
unfolding comprehension_names
comprehension_binds cs name = (
  λ h. nothing_before name (each_from with_clause ClauseBinds clause_adds cs [] name h),
  λ b. each_into with_clause ClauseBinds clause_adds cs [] name (inr b),
)

pub function_binds : FunctionBinds
unfolding function_names
function_binds ps body name = (
  λ h. nothing_before name (join (each_from with_parameter ParameterBinds parameter_adds ps [] name) (each_from with_stmt StmtBinds stmt_adds body (with_each with_parameter [] ps) name h)),
  λ b. each_into with_stmt StmtBinds stmt_adds body (with_each with_parameter [] ps) name (split_sum (each_into with_parameter ParameterBinds parameter_adds ps [] name) (inr b)),
)

pub file_binds : FileBinds
unfolding global_names
file_binds ts name = (
  λ h. nothing_before name (each_from with_top TopBinds top_adds ts [] name h),
  λ b. each_into with_top TopBinds top_adds ts [] name (inr b),
)

pub loads_bind : LoadsBind
unfolding loaded_names
loads_bind ts name = (
  λ h. nothing_before name (each_from with_loads (λ m t. loads_bind_by m (out-Stmt t.statement)) loads_adds ts [] name h),
  λ b. each_into with_loads (λ m t. loads_bind_by m (out-Stmt t.statement)) loads_adds ts [] name (inr b),
)
