-- The names of a comprehension are in its block: those of the variables of each `for`.
use Rattle.std.proofs.Common.{◌≡◌, ℕ, zero, suc, Bool, true, false, ◌||◌, List, [], ◌∷◌, ◌++◌, bytes_eq, refl}
use Rattle.std.specs.Prelude.{if◌then◌else◌}
use Rattle.std.proofs.lemmas.Slice.Eq.{bytes_eq-Decides}
use Rattle.bq_parse_grammar.specs.declared.tree.Argument.TheOpen.{Clause-F, TargetExpr-F}
use Rattle.bq_parse_grammar.specs.declared.tree.Clause.{Clause, out-Clause}
use Rattle.bq_parse_grammar.specs.declared.tree.TargetExpr.{TargetExpr, out-TargetExpr}
use Rattle.bq_resolve_scope.specs.Names.{Name, TargetLayer, ClauseLayer, max_layers, has, with_name, with_each, with_target_by, with_target_to, with_target, with_clause_by, with_clause, comprehension_names}
use Rattle.bq_eval_by_name.proofs.Walks.{Every}

-- the names of a target are among these
abbrev pub names_in_by : (TargetExpr → Type 0) → List Name → TargetLayer → Type 0
names_in_by inner names (TargetExpr-F.TargetExpr::Name n) = has names n.name ≡ true
names_in_by inner names (TargetExpr-F.TargetExpr::Index x i) = Unit {0}
names_in_by inner names (TargetExpr-F.TargetExpr::Tuple ts) = Every inner ts
names_in_by inner names (TargetExpr-F.TargetExpr::List ts) = Every inner ts

unfoldable pub NamesIn : List Name → ℕ → TargetExpr → Type 0
NamesIn names zero t = Unit {0}
NamesIn names (suc n) t = names_in_by (NamesIn names n) names (out-TargetExpr t)

abbrev pub variables_in : List Name → ClauseLayer → Type 0
variables_in names (Clause-F.For t x) = NamesIn names max_layers t
variables_in names (Clause-F.If x) = Unit {0}

abbrev pub VariablesIn : List Name → Clause → Type 0
VariablesIn names c = variables_in names (out-Clause c)

-- ---- one name more

abbrev Grows : List Name → List Name → Type 0
Grows names more = (name : Name) → has names name ≡ true → has more name ≡ true

or_left : (a b : Bool) → a ≡ true → (a || b) ≡ true
or_left true b h = refl
or_left false b h = absurd (let no : ⊥ = cc in no)

or_right : (a b : Bool) → b ≡ true → (a || b) ≡ true
or_right true b h = refl
or_right false b h = h

or_more : (a b d : Bool) → (b ≡ true → d ≡ true) → (a || b) ≡ true → (a || d) ≡ true
or_more true b d f h = refl
or_more false b d f h = f h

last_has : (names : List Name) (n : Name) → has (names ++ n ∷ []) n ≡ true
last_has [] n = or_left (bytes_eq n n) false ((bytes_eq-Decides n n).1 refl)
last_has (x ∷ xs) n = or_right (bytes_eq n x) (has (xs ++ n ∷ []) n) (last_has xs n)

last_grows : (names : List Name) (n : Name) → Grows names (names ++ n ∷ [])
last_grows [] n name h = absurd (let no : ⊥ = cc in no)
last_grows (x ∷ xs) n name h = or_more (bytes_eq name x) (has xs name) (has (xs ++ n ∷ []) name) (last_grows xs n name) h

has_by : (t : Bool) (names : List Name) (n : Name) → has names n ≡ t → has (if t then names else names ++ n ∷ []) n ≡ true
has_by true names n e = e
has_by false names n e = last_has names n

grows_by : (t : Bool) (names : List Name) (n : Name) → Grows names (if t then names else names ++ n ∷ [])
grows_by true names n name h = h
grows_by false names n name h = last_grows names n name h

name_has : (names : List Name) (n : Name) → has (with_name names n) n ≡ true
unfolding with_name
name_has names n = has_by (has names n) names n refl

name_grows : (names : List Name) (n : Name) → Grows names (with_name names n)
unfolding with_name
name_grows names n = grows_by (has names n) names n

each_grows : {A : Type 0} (add : List Name → A → List Name) → ((names : List Name) (x : A) → Grows names (add names x)) → (names : List Name) (xs : List A) → Grows names (with_each add names xs)
each_grows add one names [] name h = h
each_grows add one names (x ∷ xs) name h = each_grows add one (add names x) xs name (one names x name h)

-- ---- targets

target_by_grows : (inner : List Name → TargetExpr → List Name) → ((names : List Name) (t : TargetExpr) → Grows names (inner names t)) → (names : List Name) (o : TargetLayer) → Grows names (with_target_by inner names o)
target_by_grows inner one names (TargetExpr-F.TargetExpr::Name n) = name_grows names n.name
target_by_grows inner one names (TargetExpr-F.TargetExpr::Index x i) = λ name h. h
target_by_grows inner one names (TargetExpr-F.TargetExpr::Tuple ts) = each_grows inner one names ts
target_by_grows inner one names (TargetExpr-F.TargetExpr::List ts) = each_grows inner one names ts

target_grows : (n : ℕ) (names : List Name) (t : TargetExpr) → Grows names (with_target_to n names t)
unfolding with_target_to
target_grows zero names t = λ name h. h
target_grows (suc n) names t = target_by_grows (with_target_to n) (target_grows n) names (out-TargetExpr t)

every_more : {A : Type 0} (P Q : A → Type 0) → ((x : A) → P x → Q x) → (xs : List A) → Every P xs → Every Q xs
every_more P Q weaker [] h = tt
every_more P Q weaker (x ∷ xs) h = (weaker x h.0, every_more P Q weaker xs h.1)

in_more_by : (names more : List Name) → Grows names more → (P Q : TargetExpr → Type 0) → ((t : TargetExpr) → P t → Q t) → (o : TargetLayer) → names_in_by P names o → names_in_by Q more o
in_more_by names more g P Q weaker (TargetExpr-F.TargetExpr::Name n) h = g n.name h
in_more_by names more g P Q weaker (TargetExpr-F.TargetExpr::Index x i) h = tt
in_more_by names more g P Q weaker (TargetExpr-F.TargetExpr::Tuple ts) h = every_more P Q weaker ts h
in_more_by names more g P Q weaker (TargetExpr-F.TargetExpr::List ts) h = every_more P Q weaker ts h

in_more : (names more : List Name) → Grows names more → (n : ℕ) (t : TargetExpr) → NamesIn names n t → NamesIn more n t
unfolding NamesIn
in_more names more g zero t h = tt
in_more names more g (suc n) t h = in_more_by names more g (NamesIn names n) (NamesIn more n) (in_more names more g n) (out-TargetExpr t) h

each_in : (n : ℕ) → ((names : List Name) (t : TargetExpr) → NamesIn (with_target_to n names t) n t) → (names : List Name) (ts : List TargetExpr) → Every (NamesIn (with_each (with_target_to n) names ts) n) ts
each_in n one names [] = tt
each_in n one names (t ∷ ts) = (
  in_more (with_target_to n names t) (with_each (with_target_to n) (with_target_to n names t) ts) (each_grows (with_target_to n) (target_grows n) (with_target_to n names t) ts) n t (one names t),
  each_in n one (with_target_to n names t) ts,
)

in_by : (n : ℕ) → ((names : List Name) (t : TargetExpr) → NamesIn (with_target_to n names t) n t) → (names : List Name) (o : TargetLayer)
    → names_in_by (NamesIn (with_target_by (with_target_to n) names o) n) (with_target_by (with_target_to n) names o) o
in_by n one names (TargetExpr-F.TargetExpr::Name m) = name_has names m.name
in_by n one names (TargetExpr-F.TargetExpr::Index x i) = tt
in_by n one names (TargetExpr-F.TargetExpr::Tuple ts) = each_in n one names ts
in_by n one names (TargetExpr-F.TargetExpr::List ts) = each_in n one names ts

target_in : (n : ℕ) (names : List Name) (t : TargetExpr) → NamesIn (with_target_to n names t) n t
unfolding NamesIn with_target_to
target_in zero names t = tt
target_in (suc n) names t = in_by n (target_in n) names (out-TargetExpr t)

-- ---- clauses

clause_by_grows : (names : List Name) (o : ClauseLayer) → Grows names (with_clause_by names o)
unfolding with_target
clause_by_grows names (Clause-F.For t x) = target_grows max_layers names t
clause_by_grows names (Clause-F.If x) = λ name h. h

clause_grows : (names : List Name) (c : Clause) → Grows names (with_clause names c)
unfolding with_clause
clause_grows names c = clause_by_grows names (out-Clause c)

clause_by_in : (names more : List Name) (o : ClauseLayer) → Grows (with_clause_by names o) more → variables_in more o
unfolding with_target
clause_by_in names more (Clause-F.For t x) g = in_more (with_target_to max_layers names t) more g max_layers t (target_in max_layers names t)
clause_by_in names more (Clause-F.If x) g = tt

clauses_in : (names : List Name) (cs : List Clause) → Every (VariablesIn (with_each with_clause names cs)) cs
unfolding with_clause
clauses_in names [] = tt
clauses_in names (c ∷ cs) =
    (clause_by_in names (with_each with_clause (with_clause names c) cs) (out-Clause c) (each_grows with_clause clause_grows (with_clause names c) cs), clauses_in (with_clause names c) cs)

pub variables_are_in : (cs : List Clause) → Every (VariablesIn (comprehension_names cs)) cs
unfolding comprehension_names
variables_are_in cs = clauses_in [] cs
