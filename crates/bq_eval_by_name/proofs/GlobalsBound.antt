-- Each statement of a file binds its names, and what is bound stays bound.
use Rattle.std.proofs.Common.{◌≡◌, ℕ, zero, suc, ◌+◌, Bool, true, false, ◌||◌, List, [], ◌∷◌, ◌++◌, length, Some, bytes_eq, refl, sym, subst, arith}
use Rattle.std.specs.Prelude.{if◌then◌else◌}
use Rattle.bq_parse_grammar.specs.declared.tree.Argument.TheOpen.{TargetExpr-F}
use Rattle.bq_parse_grammar.specs.declared.tree.Branch.{Branch}
use Rattle.bq_parse_grammar.specs.declared.tree.Expr.{Expr}
use Rattle.bq_parse_grammar.specs.declared.tree.Operator.{Operator}
use Rattle.bq_parse_grammar.specs.declared.tree.SmallKind.{SmallKind}
use Rattle.bq_parse_grammar.specs.declared.tree.SmallKind.TheVariants as small
use Rattle.bq_parse_grammar.specs.declared.tree.SmallStmt.{SmallStmt}
use Rattle.bq_parse_grammar.specs.declared.tree.Stmt.{Stmt, out-Stmt}
use Rattle.bq_parse_grammar.specs.declared.tree.Stmt.TheOpen.{Stmt-F}
use Rattle.bq_parse_grammar.specs.declared.tree.TargetExpr.{TargetExpr, out-TargetExpr}
use Rattle.bq_parse_grammar.specs.declared.tree.TopLevel.{TopLevel}
use Rattle.bq_resolve_scope.specs.declared.file.FileLine.{FileLine}
use Rattle.bq_resolve_scope.specs.Files.{file_names}
use Rattle.bq_resolve_scope.specs.Names.{Name, TargetLayer, max_layers, has, with_name, with_each, with_target_by, with_target_to, with_target, with_small, with_stmt_by, with_stmt_to, with_stmt, global_names}
use Rattle.bq_resolve_scope.proofs.Cases.{with_small_by}
use Rattle.bq_resolve_scope.specs.Scope.{FileParts}
use Rattle.bq_resolve_laws.specs.Violations.{in_turn, Before, nothing_before, in_file_small_by, in_file_small, after_small, in_top_level_by, in_top_level, after, violations}
use Rattle.bq_resolve_laws.proofs.FaultyFiles.{without_violations}
use Rattle.bq_value.specs.Datum.{Datum, function, data_of}
use Rattle.bq_builtin_machine.specs.Action.{Action, Run, done, stopped, following}
use Rattle.bq_eval_spec.specs.Primitives.{Primitives}
use Rattle.bq_eval_spec.specs.Expressions.{values}
use Rattle.bq_eval_spec.specs.Module as language
use Rattle.bq_eval_spec.specs.Module.{Own, eval_top, def_stmt, top_level, top_levels}
use Rattle.bq_eval_spec.specs.Statements as stmts
use Rattle.bq_eval_spec.specs.Statements.{Flow, next, go_on, small_by, steps_of, line}
use Rattle.bq_eval_spec.specs.Targets as targets
use Rattle.bq_eval_spec.specs.Targets.{Places, bound, bind_each, unpack, bind_by, bind_to, places_to, assign, augment_by}
use Rattle.bq_eval_spec.specs.Trees.{Eval}
use Rattle.bq_eval_spec.specs.Files.{functions_by, defaults_of, outside_by, lines_from}
use Rattle.bq_eval_spec.specs.ModuleByName.{own_of, first_globals, module_meaning}
use Rattle.bq_eval_spec.specs.Names.{Env, Round, bind, own_value, by_names}
use Rattle.bq_eval_by_name.specs.Ends.{Gives, AllBound, PartsAreCounted, GlobalsAreBound}
use Rattle.bq_eval_by_name.proofs.Fresh.{none_first, none_second}

gives_then : {S A B : Type 0} (P : A → Type 0) (Q : B → Type 0) (r : Run S A) (go : A → Action S B) → Gives P r → ((a : A) (s : S) → P a → Gives Q (go a s)) → Gives Q (following r go)
gives_then P Q (done a s) go h k = k a s h
gives_then P Q (stopped why) go h k = tt

gives_after : {S A B : Type 0} (Q : B → Type 0) (r : Run S A) (go : A → Action S B) → ((a : A) (s : S) → Gives Q (go a s)) → Gives Q (following r go)
gives_after Q (done a s) go k = k a s
gives_after Q (stopped why) go k = tt

-- ---- a name is bound

or_other : (a b : Bool) → (a || b) ≡ true → a ≡ false → b ≡ true
or_other true b h e = absurd (let no : ⊥ = cc in no)
or_other false b h e = h

one_step : (a b d : Bool) → (b ≡ true → d ≡ true) → (a || b) ≡ true → (a || d) ≡ true
one_step true b d f h = refl
one_step false b d f h = f h

has_last : (ns : List Name) (n name : Name) → has (ns ++ n ∷ []) name ≡ true → bytes_eq name n ≡ false → has ns name ≡ true
has_last [] n name h e = or_other (bytes_eq name n) false h e
has_last (x ∷ xs) n name h e = one_step (bytes_eq name x) (has (xs ++ n ∷ []) name) (has xs name) (λ g. has_last xs n name g e) h

has_by : (t : Bool) (ns : List Name) (n name : Name) → has (if t then ns else ns ++ n ∷ []) name ≡ true → bytes_eq name n ≡ false → has ns name ≡ true
has_by true ns n name h e = h
has_by false ns n name h e = has_last ns n name h e

bound_bind : (ns : List Name) (env : Env) (n : Name) (v : Datum) → AllBound ns env → AllBound (with_name ns n) (bind env n v)
unfolding bind with_name
bound_bind ns env n v all name h = go (bytes_eq name n) refl
  where
    go : (t : Bool) → bytes_eq name n ≡ t → (w : Datum) × ((if t then Some (Some v) else env name) ≡ Some (Some w))
    go true e = (v, refl)
    go false e = all name (has_by (has ns n) ns n name h e)

module _ {S : Type 0} (m : Primitives S) (counted : PartsAreCounted m) where
  -- ---- targets

  abbrev Binds : (List Name → TargetExpr → List Name) → (TargetExpr → Datum → Env → Places → Action S (Env × Places)) → Type 0
  Binds add inner = (t : TargetExpr) (ns : List Name) (v : Datum) (env : Env) (ps : Places) (s : S) → AllBound ns env → Gives (λ r. AllBound (add ns t) r.0) (inner t v env ps s)

  place_bound : (inner : TargetExpr → Datum → Env → Places → Action S (Env × Places)) (x i : Expr) (ns : List Name) (v : Datum) (env : Env) (ps : Places) (s : S) → AllBound ns env
      → Gives (λ r. AllBound ns r.0) (bind_by m by_names inner (TargetExpr-F.TargetExpr::Index x i) v env ps s)
  unfolding targets.bind_place
  place_bound inner x i ns v env [] s h = tt
  place_bound inner x i ns v env (p ∷ ps) s h = gives_after (λ r. AllBound ns r.0) (m.set_index p.0 p.1 v s) _ (λ _ w. h)

  each_bound : (add : List Name → TargetExpr → List Name) (inner : TargetExpr → Datum → Env → Places → Action S (Env × Places)) → Binds add inner → (ts : List TargetExpr) (vs : List Datum) → length vs ≡ length ts
      → (ns : List Name) (env : Env) (ps : Places) (s : S) → AllBound ns env → Gives (λ r. AllBound (with_each add ns ts) r.0) (bind_each m inner ts vs env ps s)
  unfolding bind_each
  each_bound add inner one [] [] e ns env ps s h = h
  each_bound add inner one [] (v ∷ vs) e ns env ps s h = absurd (let no : ⊥ = omega arith in no)
  each_bound add inner one (t ∷ ts) [] e ns env ps s h = absurd (let no : ⊥ = omega arith in no)
  each_bound add inner one (t ∷ ts) (v ∷ vs) e ns env ps s h =
      gives_then (λ r. AllBound (add ns t) r.0) (λ r. AllBound (with_each add (add ns t) ts) r.0) (inner t v env ps s) _ (one t ns v env ps s h)
      (λ r w k. each_bound add inner one ts vs (omega arith) (add ns t) r.0 r.1 w k)

  unpack_bound : (add : List Name → TargetExpr → List Name) (inner : TargetExpr → Datum → Env → Places → Action S (Env × Places)) → Binds add inner → (ts : List TargetExpr) (ns : List Name) (v : Datum) (env : Env) (ps : Places) (s : S)
      → AllBound ns env → Gives (λ r. AllBound (with_each add ns ts) r.0) (unpack m inner ts v env ps s)
  unfolding unpack
  unpack_bound add inner one ts ns v env ps s h =
      gives_then (λ vs. length vs ≡ length ts) (λ r. AllBound (with_each add ns ts) r.0) (m.parts (length ts) v s) _ (counted (length ts) v s) (λ vs w k. each_bound add inner one ts vs k ns env ps w h)

  layer_bound : (add : List Name → TargetExpr → List Name) (inner : TargetExpr → Datum → Env → Places → Action S (Env × Places)) → Binds add inner → (o : TargetLayer) (ns : List Name) (v : Datum) (env : Env) (ps : Places) (s : S)
      → AllBound ns env → Gives (λ r. AllBound (with_target_by add ns o) r.0) (bind_by m by_names inner o v env ps s)
  layer_bound add inner one (TargetExpr-F.TargetExpr::Name n) ns v env ps s h = bound_bind ns env n.name v h
  layer_bound add inner one (TargetExpr-F.TargetExpr::Index x i) ns v env ps s h = place_bound inner x i ns v env ps s h
  layer_bound add inner one (TargetExpr-F.TargetExpr::Tuple ts) ns v env ps s h = unpack_bound add inner one ts ns v env ps s h
  layer_bound add inner one (TargetExpr-F.TargetExpr::List ts) ns v env ps s h = unpack_bound add inner one ts ns v env ps s h

  target_bound : (n : ℕ) → Binds (with_target_to n) (bind_to m by_names n)
  unfolding with_target_to bind_to targets.bind_target
  target_bound zero t ns v env ps s h = tt
  target_bound (suc n) t ns v env ps s h = layer_bound (with_target_to n) (bind_to m by_names n) (target_bound n) (out-TargetExpr t) ns v env ps s h

  module _ (E : Eval S Env) where
    assign_bound : (t : TargetExpr) (v : Datum) (ns : List Name) (env : Env) (s : S) → AllBound ns env → Gives (AllBound (with_target ns t)) (assign m by_names E t v env s)
    unfolding assign with_target
    assign_bound t v ns env s h =
        gives_after (AllBound (with_target_to max_layers ns t)) (places_to m E max_layers t env [] s) _
        (λ ps w. gives_then (λ r. AllBound (with_target_to max_layers ns t) r.0) (AllBound (with_target_to max_layers ns t)) (bind_to m by_names max_layers t v env ps w) _ (target_bound max_layers t ns v env ps w h) (λ r z k. k))

    augment_by_bound : (add : List Name → TargetExpr → List Name) (o : TargetLayer) (op : Operator) (x : Expr) (ns : List Name) (env : Env) (s : S) → AllBound ns env
        → Gives (AllBound (with_target_by add ns o)) (augment_by m by_names E o op x env s)
    unfolding targets.augment_name targets.augment_index
    augment_by_bound add (TargetExpr-F.TargetExpr::Name n) op x ns env s h =
        gives_after _ (bound m (own_value (env n.name)) s) _ (λ old a. gives_after _ (E x env a) _ (λ v b. gives_after _ (m.augment op old v b) _ (λ new d. bound_bind ns env n.name new h)))
    augment_by_bound add (TargetExpr-F.TargetExpr::Index y i) op x ns env s h =
        gives_after _ (E y env s) _ (λ u a. gives_after _ (E i env a) _ (λ w b. gives_after _ (m.index u w b) _
        (λ old d. gives_after _ (E x env d) _ (λ v e. gives_after _ (m.augment op old v e) _ (λ new f. gives_after _ (m.set_index u w new f) _ (λ _ g. h))))))
    augment_by_bound add (TargetExpr-F.TargetExpr::Tuple ts) op x ns env s h = tt
    augment_by_bound add (TargetExpr-F.TargetExpr::List ts) op x ns env s h = tt

    augment_bound : (t : TargetExpr) (op : Operator) (x : Expr) (ns : List Name) (env : Env) (s : S) → AllBound ns env → Gives (AllBound (with_target ns t)) (targets.augment m by_names E t op x env s)
    unfolding with_target with_target_to max_layers targets.augment
    augment_bound t op x ns env s h = augment_by_bound (with_target_to 1023) (out-TargetExpr t) op x ns env s h

    -- ---- statements outside functions: they go on

    abbrev On : List Name → Flow × Env → Type 0
    On ns r = (r.0 ≡ next) × AllBound ns r.1

    module _ (file : FileParts) where
      kind_bound : (b : Before) (at : ℕ) (k : SmallKind) → in_file_small_by file b at k ≡ [] → (ns : List Name) (env : Env) (s : S) → AllBound ns env → Gives (On (with_small_by ns k)) (small_by m by_names E k env s)
      unfolding stmts.expr_stmt stmts.assign_stmt
      kind_bound b at (small.Expr x) e ns env s h = gives_after (On ns) (E x env s) _ (λ v w. (refl, h))
      kind_bound b at (small.Assign t x) e ns env s h =
          gives_after (On (with_target ns t)) (E x env s) _ (λ v w. gives_then (AllBound (with_target ns t)) (On (with_target ns t)) (assign m by_names E t v env w) _ (assign_bound t v ns env w h) (λ new z k. (refl, k)))
      kind_bound b at (small.Augment t op x) e ns env s h =
          gives_then (AllBound (with_target ns t)) (On (with_target ns t)) (targets.augment m by_names E t op x env s) _ (augment_bound t op x ns env s h) (λ new z k. (refl, k))
      kind_bound b at (small.Return x) e ns env s h = absurd (let no : ⊥ = cc in no)
      kind_bound b at small.Break e ns env s h = absurd (let no : ⊥ = cc in no)
      kind_bound b at small.Continue e ns env s h = absurd (let no : ⊥ = cc in no)
      kind_bound b at small.Pass e ns env s h = (refl, h)
      kind_bound b at (small.Load l) e ns env s h = (refl, h)

      on_by : (Q : Flow × Env → Type 0) (go : Env → Action S (Flow × Env)) (r : Flow × Env) (s : S) → r.0 ≡ next → Gives Q (go r.1 s) → Gives Q (go_on go r s)
      on_by Q go r s e h = subst (λ f. Gives Q (go_on go (f, r.1) s)) (sym e) h

      small_bound : (b : Before) (x : SmallStmt) → in_file_small file b x ≡ [] → (ns : List Name) (env : Env) (s : S) → AllBound ns env → Gives (On (with_small_by ns x.kind)) (stmts.small_stmt m by_names E x env s)
      unfolding stmts.small_stmt in_file_small
      small_bound b x e ns env s h = gives_after (On (with_small_by ns x.kind)) (m.step (steps_of x.kind) s) _ (λ _ z. kind_bound b x.line x.kind e ns env z h)

      line_bound : (b : Before) (xs : List SmallStmt) → in_turn (in_file_small file) after_small b xs ≡ [] → (ns : List Name) (env : Env) (s : S) → AllBound ns env
          → Gives (On (with_each with_small ns xs)) (line m by_names E xs env s)
      unfolding line in_file_small with_small
      line_bound b [] e ns env s h = (refl, h)
      line_bound b (x ∷ xs) e ns env s h =
          let rest = in_turn (in_file_small file) after_small (after_small b x) xs in
          let more : List Name = with_small_by ns x.kind in
          gives_then (On more) (On (with_each with_small more xs)) (stmts.small_stmt m by_names E x env s) (go_on (line m by_names E xs))
          (small_bound b x (none_first (in_file_small file b x) rest e) ns env s h)
          (λ r w k. on_by (On (with_each with_small more xs)) (line m by_names E xs) r w k.0 (line_bound (after_small b x) xs (none_second (in_file_small file b x) rest e) more r.1 w k.1))

      module _ (own : Own Round Env) where
        stmt_bound : (add : List Name → Stmt → List Name) (b : Before) (at place : ℕ) (o : Stmt-F Stmt Branch) → in_top_level_by file b at o ≡ [] → (ns : List Name) (env : Env) (s : S) → AllBound ns env
            → Gives (On (with_stmt_by add ns o)) (language.outside_by m by_names own E (outside_by place o) env s)
        unfolding def_stmt
        stmt_bound add b at place (Stmt-F.Simple xs) e ns env s h = line_bound b xs e ns env s h
        stmt_bound add b at place (Stmt-F.If bs zs) e ns env s h = absurd (let no : ⊥ = cc in no)
        stmt_bound add b at place (Stmt-F.For t x body) e ns env s h = absurd (let no : ⊥ = cc in no)
        stmt_bound add b at place (Stmt-F.Def n ps body) e ns env s h =
            gives_after (On (with_name ns n.name)) (m.step 1 s) _
            (λ _ w. gives_after (On (with_name ns n.name)) (values m E (defaults_of ps) env [] w) _ (λ vs z. (refl, bound_bind ns env n.name (function own.number place n.name (data_of vs)) h)))

        abbrev line_of : ℕ → TopLevel → FileLine
        line_of place t = record { line = t.line; statement = outside_by place (out-Stmt t.statement) }

        top_bound : (b : Before) (place : ℕ) (t : TopLevel) → in_top_level file b t ≡ [] → (ns : List Name) (env : Env) (s : S) → AllBound ns env
            → Gives (On (with_stmt ns t.statement)) (top_level m by_names own E (line_of place t) env s)
        unfolding top_level in_top_level with_stmt with_stmt_to max_layers
        top_bound b place t e ns env s h = stmt_bound (with_stmt_to 1023) b t.line place (out-Stmt t.statement) e ns env (m.at_line t.line s) h

        tops_bound : (b : Before) (place : ℕ) (ts : List TopLevel) → in_turn (in_top_level file) after b ts ≡ [] → (ns : List Name) (env : Env) (s : S) → AllBound ns env
            → Gives (On (with_each (λ names t. with_stmt names t.statement) ns ts)) (top_levels m by_names own E (lines_from place ts) env s)
        unfolding top_levels
        tops_bound b place [] e ns env s h = (refl, h)
        tops_bound b place (t ∷ ts) e ns env s h =
            let rest = in_turn (in_top_level file) after (after b t) ts in
            let later : ℕ = place + length (functions_by (out-Stmt t.statement)) in
            let all : List Name = with_each (λ names t. with_stmt names t.statement) (with_stmt ns t.statement) ts in
            gives_then (On (with_stmt ns t.statement)) (On all) (top_level m by_names own E (line_of place t) env s) (go_on (top_levels m by_names own E (lines_from later ts)))
            (top_bound b place t (none_first (in_top_level file b t) rest e) ns env s h)
            (λ r w k. on_by (On all) (top_levels m by_names own E (lines_from later ts)) r w k.0 (tops_bound (after b t) later ts (none_second (in_top_level file b t) rest e) (with_stmt ns t.statement) r.1 w k.1))

pub globals_are_bound : {S : Type 0} (m : Primitives S) → GlobalsAreBound m
unfolding module_meaning language.module_meaning global_names violations
globals_are_bound m counted units number universe ts r e loaded s =
    let own : Own Round Env = own_of number universe ts loaded in
    gives_then (On m counted (eval_top m by_names units own) (global_names ts)) (AllBound (global_names ts)) (top_levels m by_names own (eval_top m by_names units own) (lines_from 0 ts) (first_globals ts loaded) s) _
    (tops_bound m counted (eval_top m by_names units own) (file_names universe ts) own nothing_before 0 ts ((without_violations universe ts).0 (r, e)) [] (first_globals ts loaded) s (λ name h. absurd (let no : ⊥ = cc in no)))
    (λ q z k. k.1)
