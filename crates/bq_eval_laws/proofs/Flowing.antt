-- Where a run goes on after a statement.
use Rattle.std.proofs.Common.{◌≡◌, ◌≢◌, ◌∙◌, List, [], ◌∷◌, refl, sym, ap, subst}
use Rattle.bq_parse_grammar.specs.declared.tree.SmallKind.{SmallKind}
use Rattle.bq_parse_grammar.specs.declared.tree.Stmt.{Stmt}
use Rattle.bq_parse_grammar.specs.declared.tree.TargetExpr.{TargetExpr}
use Rattle.bq_resolve_scope.specs.declared.file.Outside.{Outside}
use Rattle.bq_value.specs.Datum.{Datum, function, data_of}
use Rattle.bq_builtin_machine.specs.Action.{Action, Run, done, stopped, following, ◌>>=◌, pure}
use Rattle.bq_builtin_machine.specs.State.{Stop}
use Rattle.bq_eval_spec.specs.Primitives.{Primitives, change}
use Rattle.bq_eval_spec.specs.Calls.{answered, body_of}
use Rattle.bq_eval_spec.specs.Environment.{Scoping}
use Rattle.bq_eval_spec.specs.Expressions.{values, eval_in}
use Rattle.bq_eval_spec.specs.Module.{def_stmt, outside_by, top_level, top_levels}
use Rattle.bq_eval_spec.specs.Statements.{Flow, next, leave, again, answer, Exec, go_on, turn_on, steps_of, expr_stmt, assign_stmt, return_stmt, small_by, small_stmt, line, block, branches, turn, turns, for_loop, stmt_by, stmt, run_in}
use Rattle.bq_eval_spec.specs.Targets.{bind_variables, assign, augment}
use Rattle.bq_eval_spec.specs.Trees.{Eval, StmtLayer}
use Rattle.bq_eval_laws.specs.Flows.{RunsTo, ran_all, ran_one, ended_by, RunStops, stops_first, stops_after, TurnsTo, turned_all, turned_one, continued, broken, returned, EndsNoLoop, Does, breaks, continues, passes, loads, returns_none, returns, evaluates, assigns, augments, SmallStatementsDo, LinesRunInOrder, BlocksRunInOrder, FilesRunInOrder, TurnsRunTheBody, LoopsTurn, LoopsEndNoOther, IfsRunABranch, ForsRunALoop, FunctionsGiveWhatTheyReturn, DefaultsFirst, FileLinesRunThere}
use Rattle.bq_eval_laws.proofs.InOrder.{goes, ends, values_in_order}
use Rattle.bq_eval_laws.proofs.Stepping.{same_steps}

-- ---- one statement after another

-- what doesn't go on to the next statement is the end
past : {S V : Type 0} (run : Exec S V) (flow : Flow) (env : V) (s : S) → flow ≢ next → go_on run (flow, env) s ≡ done (flow, env) s
past run next env s not_next = absurd (not_next refl)
past run leave env s not_next = refl
past run again env s not_next = refl
past run (answer v) env s not_next = refl

module _ {S V X : Type 0} (run : X → Exec S V) (all : List X → Exec S V) (at_end : (env : V) (s : S) → all [] env s ≡ done (next, env) s)
    (at_first : (x : X) (xs : List X) (env : V) (s : S) → all (x ∷ xs) env s ≡ following (run x env s) (λ r. go_on (all xs) r)) where
  in_turn : (xs : List X) (env : V) (s : S) (flow : Flow) (new : V) (t : S) → RunsTo run xs env s flow new t → all xs env s ≡ done (flow, new) t
  in_turn xs env s flow new t ran_all = at_end env s
  in_turn xs env s flow new t (ran_one {x = x} {xs = ys} {mid = mid} {t = u} h k) =
      at_first x ys env s ∙ (goes (run x env s) (λ r. go_on (all ys) r) (next, mid) u h ∙ in_turn ys mid u flow new t k)
  in_turn xs env s flow new t (ended_by {x = x} {xs = ys} not_next h) = at_first x ys env s ∙ (goes (run x env s) (λ r. go_on (all ys) r) (flow, new) t h ∙ past (all ys) flow new t not_next)

  stopped_at : (xs : List X) (env : V) (s : S) (why : Stop) → RunStops run xs env s why → all xs env s ≡ stopped why
  stopped_at xs env s why (stops_first {x = x} {xs = ys} h) = at_first x ys env s ∙ ends (run x env s) (λ r. go_on (all ys) r) why h
  stopped_at xs env s why (stops_after {x = x} {xs = ys} {mid = mid} {t = u} h k) =
      at_first x ys env s ∙ (goes (run x env s) (λ r. go_on (all ys) r) (next, mid) u h ∙ stopped_at ys mid u why k)

-- ---- loops

-- what holds of each value that may come after a run
holds_after : {S A B : Type 0} (P : B → Type 0) (r : Run S A) (f : A → Action S B) → ((x : A) (s : S) (y : B) (t : S) → f x s ≡ done y t → P y) → (y : B) (t : S) → following r f ≡ done y t → P y
holds_after P (done x s) f h y t e = h x s y t e
holds_after P (stopped why) f h y t e = absurd (let no : ⊥ = cc in no)

-- of a pair of a flow and an environment
abbrev PastLoops : {V : Type 0} → Flow × V → Type 0
PastLoops r = EndsNoLoop r.0

value_of : {S A : Type 0} (P : A → Type 0) (x y : A) (s t : S) → P x → pure x s ≡ done y t → P y
value_of P x y s t h e = let same : x ≡ y = cc in subst P same h

module _ {S R V : Type 0} (m : Primitives S) (scoping : Scoping R V) where
  small_does : (eval : Eval S V) (k : SmallKind) (env : V) (s : S) (flow : Flow) (new : V) (t : S) → Does m scoping eval k env s flow new t → small_by m scoping eval k env s ≡ done (flow, new) t
  unfolding expr_stmt assign_stmt return_stmt
  small_does eval k env s flow new t breaks = refl
  small_does eval k env s flow new t continues = refl
  small_does eval k env s flow new t passes = refl
  small_does eval k env s flow new t loads = refl
  small_does eval k env s flow new t returns_none = refl
  small_does eval k env s flow new t (returns {x = x} {v = v} h) = goes (eval x env s) (λ w. pure (answer w, env)) v t h
  small_does eval k env s flow new t (evaluates {x = x} {v = v} h) = goes (eval x env s) (λ _. pure (next, env)) v t h
  small_does eval k env s flow new t (assigns {target = target} {x = x} {v = v} {t = u} h g) =
      goes (eval x env s) (λ w. assign m scoping eval target w env >>= λ e. pure (next, e)) v u h ∙ goes (assign m scoping eval target v env u) (λ e. pure (next, e)) new t g
  small_does eval k env s flow new t (augments {target = target} {o = o} {x = x} h) = goes (augment m scoping eval target o x env s) (λ e. pure (next, e)) new t h

  pub small_statements : SmallStatementsDo m scoping
  unfolding small_stmt
  small_statements eval x env new r s t flow step does =
      goes (m.step (steps_of x.kind) r) (λ _. small_by m scoping eval x.kind env) tt s (sym (ap (λ n. m.step n r) (same_steps m scoping x.kind)) ∙ step)
      ∙ small_does eval x.kind env s flow new t does

  pub lines : LinesRunInOrder m scoping
  unfolding line
  lines eval xs env s = (
    in_turn (small_stmt m scoping eval) (line m scoping eval) (λ _ _. refl) (λ _ _ _ _. refl) xs env s,
    stopped_at (small_stmt m scoping eval) (line m scoping eval) (λ _ _. refl) (λ _ _ _ _. refl) xs env s,
  )

  pub blocks : BlocksRunInOrder m scoping
  unfolding block
  blocks eval run xs env s = (in_turn run (block m scoping eval run) (λ _ _. refl) (λ _ _ _ _. refl) xs env s, stopped_at run (block m scoping eval run) (λ _ _. refl) (λ _ _ _ _. refl) xs env s)

  pub files : FilesRunInOrder m scoping
  unfolding top_levels
  files own eval xs globals s = (
    in_turn (top_level m scoping own eval) (top_levels m scoping own eval) (λ _ _. refl) (λ _ _ _ _. refl) xs globals s,
    stopped_at (top_level m scoping own eval) (top_levels m scoping own eval) (λ _ _. refl) (λ _ _ _ _. refl) xs globals s,
  )

  pub bodies : TurnsRunTheBody m scoping
  unfolding turn
  bodies eval run t body v env mid new r s u w flow step binds runs =
      goes (m.step 1 r) (λ _. bind_variables m scoping t v env >>= λ e. block m scoping eval run body e) tt s step
      ∙ (goes (bind_variables m scoping t v env s) (λ e. block m scoping eval run body e) mid u binds ∙ (blocks eval run body mid u).0 flow new w runs)

  module _ (eval : Eval S V) (run : Stmt → Exec S V) (target : TargetExpr) (body : List Stmt) where
    abbrev once : Datum → Exec S V
    once = turn m scoping eval run target body

    abbrev rest : List Datum → Flow × V → Action S (Flow × V)
    rest vs r = turn_on (turns m scoping eval run target body vs) r

    turns_to : (vs : List Datum) (env : V) (s : S) (flow : Flow) (new : V) (t : S) → TurnsTo once vs env s flow new t → turns m scoping eval run target body vs env s ≡ done (flow, new) t
    unfolding turns
    turns_to vs env s flow new t turned_all = refl
    turns_to vs env s flow new t (turned_one {v = v} {vs = ws} {mid = mid} {t = u} h k) = goes (once v env s) (rest ws) (next, mid) u h ∙ turns_to ws mid u flow new t k
    turns_to vs env s flow new t (continued {v = v} {vs = ws} {mid = mid} {t = u} h k) = goes (once v env s) (rest ws) (again, mid) u h ∙ turns_to ws mid u flow new t k
    turns_to vs env s flow new t (broken {v = v} {vs = ws} h) = goes (once v env s) (rest ws) (leave, new) t h
    turns_to vs env s flow new t (returned {v = v} {w = w} {vs = ws} h) = goes (once v env s) (rest ws) (answer w, new) t h

    past_turn : (vs : List Datum) → ((env : V) (s : S) (y : Flow × V) (t : S) → turns m scoping eval run target body vs env s ≡ done y t → PastLoops y) → (r : Flow × V) (s : S) (y : Flow × V) (t : S)
        → rest vs r s ≡ done y t → PastLoops y
    past_turn vs later (next, mid) s y t e = later mid s y t e
    past_turn vs later (again, mid) s y t e = later mid s y t e
    past_turn vs later (leave, mid) s y t e = value_of PastLoops (next, mid) y s t tt e
    past_turn vs later (answer w, mid) s y t e = value_of PastLoops (answer w, mid) y s t tt e

    past_turns : (vs : List Datum) (env : V) (s : S) (y : Flow × V) (t : S) → turns m scoping eval run target body vs env s ≡ done y t → PastLoops y
    unfolding turns
    past_turns [] env s y t e = value_of PastLoops (next, env) y s t tt e
    past_turns (v ∷ vs) env s y t e = holds_after PastLoops (once v env s) (rest vs) (past_turn vs (past_turns vs)) y t e

  pub loops : LoopsTurn m scoping
  unfolding for_loop
  loops eval run target x body v vs env new s t u w flow h begun all =
      goes (eval x env s) (λ a. m.begin_walk a >>= λ bs. turns m scoping eval run target body bs env >>= λ r. change m (m.end_walk a) >>= λ _. pure r) v t h
      ∙ (goes (m.begin_walk v t) (λ bs. turns m scoping eval run target body bs env >>= λ r. change m (m.end_walk v) >>= λ _. pure r) vs u begun
      ∙ goes (turns m scoping eval run target body vs env u) (λ r. change m (m.end_walk v) >>= λ _. pure r) (flow, new) w (turns_to eval run target body vs env u flow new w all))

  -- the end of a walk changes nothing of what a loop gives
  past_walk : (v : Datum) (r : Run S (Flow × V)) → ((y : Flow × V) (t : S) → r ≡ done y t → PastLoops y) → (y : Flow × V) (t : S)
      → following r (λ q. change m (m.end_walk v) >>= λ _. pure q) ≡ done y t → PastLoops y
  past_walk v (done x u) h y t e = value_of PastLoops x y (m.end_walk v u) t (h x u refl) e
  past_walk v (stopped why) h y t e = absurd (let no : ⊥ = cc in no)

  pub ends_no_other : LoopsEndNoOther m scoping
  unfolding for_loop
  ends_no_other eval run target x body env new s t flow e =
      let walked : Datum → List Datum → Action S (Flow × V) = λ v bs. turns m scoping eval run target body bs env >>= λ r. change m (m.end_walk v) >>= λ _. pure r in
      holds_after PastLoops (eval x env s) (λ v. m.begin_walk v >>= walked v)
      (λ v u y w g. holds_after PastLoops (m.begin_walk v u) (walked v)
      (λ bs p z q h. past_walk v (turns m scoping eval run target body bs env p) (past_turns eval run target body bs env p) z q h) y w g) (flow, new) t e

  -- ---- statements

  pub ifs : IfsRunABranch m scoping
  unfolding stmt branches
  ifs eval run x bs otherwise env r s e step = (ap (λ (o : StmtLayer). stmt_by m scoping eval run o env r) e ∙ goes (m.step 1 r) (λ _. branches m scoping eval run bs otherwise env) tt s step, refl)

  pub fors : ForsRunALoop m scoping
  unfolding stmt
  fors eval run x target over body env r s e step = ap (λ (o : StmtLayer). stmt_by m scoping eval run o env r) e ∙ goes (m.step 1 r) (λ _. for_loop m scoping eval run target over body env) tt s step

  -- ---- functions and files

  pub results : FunctionsGiveWhatTheyReturn m scoping
  unfolding body_of
  results inner u d env new s t =
      let eval : Eval S V = eval_in m scoping inner u.round in
      let run : Stmt → Exec S V = run_in m scoping eval in (
        λ v runs. goes (block m scoping eval run d.body env s) (λ r. pure (answered r.0)) (answer v, new) t ((blocks eval run d.body env s).0 (answer v) new t runs),
        λ runs. goes (block m scoping eval run d.body env s) (λ r. pure (answered r.0)) (next, new) t ((blocks eval run d.body env s).0 next new t runs),
      )

  pub defaults : DefaultsFirst m scoping
  unfolding def_stmt
  defaults own eval d globals vs r s t step all =
      goes (m.step 1 r) (λ _. values m eval d.defaults globals [] >>= λ ws. pure (next, scoping.bind globals d.name (function own.number d.function d.name.name (data_of ws)))) tt s step
      ∙ goes (values m eval d.defaults globals [] s) (λ ws. pure (next, scoping.bind globals d.name (function own.number d.function d.name.name (data_of ws)))) vs t
      (values_in_order m eval globals d.defaults [] vs s t all)

  pub file_lines : FileLinesRunThere m scoping
  unfolding top_level
  file_lines own eval l globals s =
      (λ xs e. ap (λ (o : Outside). outside_by m scoping own eval o globals (m.at_line l.line s)) e, λ d e. ap (λ (o : Outside). outside_by m scoping own eval o globals (m.at_line l.line s)) e)
