-- No two load clauses of a file that resolves bind one name (F22), so each is found at its own place among the names that loads bind.
use Rattle.std.proofs.Common.{◌≡◌, ℕ, suc, ◌+◌, Bool, true, false, ◌&&◌, List, [], ◌∷◌, ◌++◌, length, Some, refl, sym, ap, ◌∙◌, subst, arith, length-append}
use Rattle.std.specs.Prelude.{if◌then◌else◌}
use Rattle.bq_base.specs.declared.fault.NameFault.{NameFault}
use Rattle.bq_base.specs.declared.fault.Fault.{Fault}
use Rattle.bq_base.specs.declared.fault.NameFault.TheVariants as f
use Rattle.bq_parse_grammar.specs.declared.tree.Branch.{Branch}
use Rattle.bq_parse_grammar.specs.declared.tree.LoadClause.{LoadClause}
use Rattle.bq_parse_grammar.specs.declared.tree.SmallKind.{SmallKind}
use Rattle.bq_parse_grammar.specs.declared.tree.SmallKind.TheVariants as small
use Rattle.bq_parse_grammar.specs.declared.tree.SmallStmt.{SmallStmt}
use Rattle.bq_parse_grammar.specs.declared.tree.Stmt.{Stmt, out-Stmt}
use Rattle.bq_parse_grammar.specs.declared.tree.Stmt.TheOpen.{Stmt-F}
use Rattle.bq_parse_grammar.specs.declared.tree.TopLevel.{TopLevel}
use Rattle.bq_resolve_scope.specs.Names.{Name, has, place_among, with_name, with_each, with_load_clause, with_load, with_loads, loaded_names, with_loads_by}
use Rattle.bq_resolve_scope.proofs.Cases.{with_load_by}
use Rattle.bq_resolve_scope.specs.Scope.{FileParts}
use Rattle.bq_resolve_scope.specs.Visit.{fault_of}
use Rattle.bq_resolve_scope.specs.Expressions.{is_bzl}
use Rattle.bq_resolve_laws.specs.Violations.{in_turn, when, Before, in_load_clause, in_file_small_by, in_file_small, after_small, in_top_level_by, in_top_level, after}
use Rattle.bq_resolve_laws.proofs.Cases.{after_by}
use Rattle.bq_eval_spec.specs.Files.{clauses_by, line_clauses, clauses_of, load_clauses}
use Rattle.bq_eval_by_name.proofs.Places.{new_place, name_stays, each_stays}

-- each binds a name that is not among those before it
abbrev pub Fresh : List Name → List LoadClause → Type 0
Fresh names [] = Unit {0}
Fresh names (c ∷ cs) = (has names c.local.name ≡ false) × Fresh (with_load_clause names c) cs

fresh_both : (names : List Name) (cs ds : List LoadClause) → Fresh names cs → Fresh (with_each with_load_clause names cs) ds → Fresh names (cs ++ ds)
fresh_both names [] ds h k = k
fresh_both names (c ∷ cs) ds h k = (h.0, fresh_both (with_load_clause names c) cs ds h.1 k)

each_both : (names : List Name) (cs ds : List LoadClause) → with_each with_load_clause names (cs ++ ds) ≡ with_each with_load_clause (with_each with_load_clause names cs) ds
each_both names [] ds = refl
each_both names (c ∷ cs) ds = each_both (with_load_clause names c) cs ds

-- ---- the names of all loads are those of all clauses

kind_names : (names : List Name) (k : SmallKind) → with_load_by names k ≡ with_each with_load_clause names (clauses_by k)
kind_names names (small.Load l) = refl
kind_names names (small.Expr x) = refl
kind_names names (small.Assign t x) = refl
kind_names names (small.Augment t o x) = refl
kind_names names (small.Return x) = refl
kind_names names small.Break = refl
kind_names names small.Continue = refl
kind_names names small.Pass = refl

line_names : (names : List Name) (xs : List SmallStmt) → with_each with_load names xs ≡ with_each with_load_clause names (line_clauses xs)
unfolding with_load
line_names names [] = refl
line_names names (x ∷ xs) =
    line_names (with_load_by names x.kind) xs ∙ ap (λ ns. with_each with_load_clause ns (line_clauses xs)) (kind_names names x.kind) ∙ sym (each_both names (clauses_by x.kind) (line_clauses xs))

stmt_names : (names : List Name) (o : Stmt-F Stmt Branch) → with_loads_by names o ≡ with_each with_load_clause names (clauses_of o)
stmt_names names (Stmt-F.Simple xs) = line_names names xs
stmt_names names (Stmt-F.If bs zs) = refl
stmt_names names (Stmt-F.For t x body) = refl
stmt_names names (Stmt-F.Def n ps body) = refl

file_names : (names : List Name) (ts : List TopLevel) → with_each with_loads names ts ≡ with_each with_load_clause names (load_clauses ts)
unfolding with_loads
file_names names [] = refl
file_names names (t ∷ ts) =
    file_names (with_loads_by names (out-Stmt t.statement)) ts ∙ ap (λ ns. with_each with_load_clause ns (load_clauses ts)) (stmt_names names (out-Stmt t.statement))
    ∙ sym (each_both names (clauses_of (out-Stmt t.statement)) (load_clauses ts))

pub names_are : (ts : List TopLevel) → loaded_names ts ≡ with_each with_load_clause [] (load_clauses ts)
unfolding loaded_names
names_are ts = file_names [] ts

-- ---- a file without violations

pub none_first : {A : Type 0} (xs ys : List A) → xs ++ ys ≡ [] → xs ≡ []
none_first [] ys e = refl
none_first (x ∷ xs) ys e = absurd (let no : ⊥ = cc in no)

pub none_second : {A : Type 0} (xs ys : List A) → xs ++ ys ≡ [] → ys ≡ []
none_second [] ys e = e
none_second (x ∷ xs) ys e = absurd (let no : ⊥ = cc in no)

not_by : (t : Bool) (why : Fault NameFault) (rest : List (Fault NameFault)) → (if t then why ∷ [] else rest) ≡ [] → t ≡ false
not_by true why rest e = absurd (let no : ⊥ = cc in no)
not_by false why rest e = refl

module _ (file : FileParts) where
  clause_fresh : (b : Before) (c : LoadClause) → in_load_clause file b c ≡ [] → has b.loaded c.local.name ≡ false
  unfolding in_load_clause
  clause_fresh b c e = not_by (has b.loaded c.local.name) (fault_of f.BoundTwice c.local) (when (is_bzl file.universe.kind && has b.bound c.local.name) (fault_of f.Rebound c.local)) e

  clauses_fresh : (b : Before) (cs : List LoadClause) → in_turn (in_load_clause file) (λ o c. record o { loaded = with_load_clause o.loaded c }) b cs ≡ [] → Fresh b.loaded cs
  clauses_fresh b [] e = tt
  clauses_fresh b (c ∷ cs) e =
      let next : Before = record b { loaded = with_load_clause b.loaded c } in
      let rest = in_turn (in_load_clause file) (λ o d. record o { loaded = with_load_clause o.loaded d }) next cs in
      (clause_fresh b c (none_first (in_load_clause file b c) rest e), clauses_fresh next cs (none_second (in_load_clause file b c) rest e))

  kind_fresh : (b : Before) (line : ℕ) (k : SmallKind) → in_file_small_by file b line k ≡ [] → Fresh b.loaded (clauses_by k)
  kind_fresh b line (small.Load l) e = clauses_fresh b l.clauses e
  kind_fresh b line (small.Expr x) e = tt
  kind_fresh b line (small.Assign t x) e = tt
  kind_fresh b line (small.Augment t o x) e = tt
  kind_fresh b line (small.Return x) e = tt
  kind_fresh b line small.Break e = tt
  kind_fresh b line small.Continue e = tt
  kind_fresh b line small.Pass e = tt

  line_fresh : (b : Before) (xs : List SmallStmt) → in_turn (in_file_small file) after_small b xs ≡ [] → Fresh b.loaded (line_clauses xs)
  unfolding in_file_small with_load
  line_fresh b [] e = tt
  line_fresh b (x ∷ xs) e =
      let rest = in_turn (in_file_small file) after_small (after_small b x) xs in
      fresh_both b.loaded (clauses_by x.kind) (line_clauses xs) (kind_fresh b x.line x.kind (none_first (in_file_small file b x) rest e))
      (subst (λ ns. Fresh ns (line_clauses xs)) (kind_names b.loaded x.kind) (line_fresh (after_small b x) xs (none_second (in_file_small file b x) rest e)))

  after_names : (b : Before) (o : Stmt-F Stmt Branch) → (after_by b o).loaded ≡ with_each with_load_clause b.loaded (clauses_of o)
  after_names b (Stmt-F.Simple xs) = line_names b.loaded xs
  after_names b (Stmt-F.If bs zs) = refl
  after_names b (Stmt-F.For t x body) = refl
  after_names b (Stmt-F.Def n ps body) = refl

  stmt_fresh : (b : Before) (line : ℕ) (o : Stmt-F Stmt Branch) → in_top_level_by file b line o ≡ [] → Fresh b.loaded (clauses_of o)
  stmt_fresh b line (Stmt-F.Simple xs) e = line_fresh b xs e
  stmt_fresh b line (Stmt-F.If bs zs) e = tt
  stmt_fresh b line (Stmt-F.For t x body) e = tt
  stmt_fresh b line (Stmt-F.Def n ps body) e = tt

  pub all_fresh : (b : Before) (ts : List TopLevel) → in_turn (in_top_level file) after b ts ≡ [] → Fresh b.loaded (load_clauses ts)
  unfolding in_top_level after
  all_fresh b [] e = tt
  all_fresh b (t ∷ ts) e =
      let o : Stmt-F Stmt Branch = out-Stmt t.statement in
      let rest = in_turn (in_top_level file) after (after b t) ts in
      fresh_both b.loaded (clauses_of o) (load_clauses ts) (stmt_fresh b t.line o (none_first (in_top_level file b t) rest e))
      (subst (λ ns. Fresh ns (load_clauses ts)) (after_names b o) (all_fresh (after b t) ts (none_second (in_top_level file b t) rest e)))

-- ---- places

-- these names have the places from `k` on
abbrev pub PlacesFrom : List Name → ℕ → List LoadClause → Type 0
PlacesFrom names k [] = Unit {0}
PlacesFrom names k (c ∷ cs) = (place_among c.local.name names ≡ Some k) × PlacesFrom names (suc k) cs

added : (t : Bool) (names : List Name) (n : Name) → has names n ≡ t → t ≡ false → (if t then names else names ++ n ∷ []) ≡ names ++ n ∷ []
added true names n e h = absurd (let no : ⊥ = cc in no)
added false names n e h = refl

new_name : (names : List Name) (n : Name) → has names n ≡ false → with_name names n ≡ names ++ n ∷ []
unfolding with_name
new_name names n h = added (has names n) names n refl h

one_more : (names : List Name) (n : Name) → has names n ≡ false → length (with_name names n) ≡ suc (length names)
one_more names n h = ap length (new_name names n h) ∙ omega (arith, length-append names (n ∷ []))

at_last : (names : List Name) (n : Name) → has names n ≡ false → place_among n (with_name names n) ≡ Some (length names)
at_last names n h = ap (place_among n) (new_name names n h) ∙ new_place names n h

pub places_are : (names : List Name) (cs : List LoadClause) → Fresh names cs → PlacesFrom (with_each with_load_clause names cs) (length names) cs
places_are names [] h = tt
places_are names (c ∷ cs) h =
    let more : List Name = with_load_clause names c in (
      each_stays with_load_clause (λ ns d. name_stays ns d.local.name) more cs c.local.name (length names) (at_last names c.local.name h.0),
      subst (λ k. PlacesFrom (with_each with_load_clause more cs) k cs) (one_more names c.local.name h.0) (places_are more cs h.1),
    )

pub length_is : (names : List Name) (cs : List LoadClause) → Fresh names cs → length (with_each with_load_clause names cs) ≡ length names + length cs
length_is names [] h = omega arith
length_is names (c ∷ cs) h =
    let rest : length (with_each with_load_clause (with_load_clause names c) cs) ≡ length (with_load_clause names c) + length cs = length_is (with_load_clause names c) cs h.1 in
    let one : length (with_load_clause names c) ≡ suc (length names) = one_more names c.local.name h.0 in omega arith
