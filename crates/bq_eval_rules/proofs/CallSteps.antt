-- One call, where a number of functions may still become active.
use Rattle.std.proofs.Common.{◌≡◌, ◌∙◌, ℕ, zero, suc, ◌<◌, ◌≤◌, ◌-◌, List, length, get_or, slice_get, Option, Some, None, IfSome, Result, Ok, Err, refl, sym, ap, arith}
use Rattle.std.proofs.lemmas.Option.{slice_get_past, slice_get_read}
use Rattle.bq_base.specs.declared.fault.EvalFault.{EvalFault}
use Rattle.bq_base.specs.declared.fault.EvalFault.TheVariants.{CallDepth, WrongType}
use Rattle.std.specs.Prelude.{MatchOption}
use Rattle.bq_base.specs.Gives.{Gives}
use Rattle.bq_value.specs.declared.error.EvalErr.{EvalErr}
use Rattle.bq_value.specs.declared.error.EvalErr.TheVariants.{Bad, Memory}
use Rattle.bq_value.specs.Datum.{Datum, data_of, function, list_of_data_of}
use Rattle.bq_resolve_scope.specs.declared.file.Function.{Function}
use Rattle.bq_parse_grammar.specs.declared.tree.Stmt.{Stmt}
use Rattle.bq_builtin_machine.specs.Action.{Run, stopped, following, pure}
use Rattle.bq_builtin_machine.specs.Args.{Passed}
use Rattle.bq_builtin_machine.specs.State.{stop_at}
use Rattle.bq_eval_spec.specs.Frame.{Frame, Surroundings}
use Rattle.bq_eval_spec.specs.Primitives.{Primitives, given_by}
use Rattle.bq_eval_spec.specs.Expressions.{eval_in}
use Rattle.bq_eval_spec.specs.Statements.{block, run_in}
use Rattle.bq_eval_spec.specs.Slots.{by_slots}
use Rattle.bq_eval_spec.specs.Trees.{Calls}
use Rattle.bq_eval_spec.specs.Calls.{TreeUnit, Units, answered, apply, body_of, call_at, call_function, calls, inner_calls, known, run_body}
use Rattle.bq_value_datum.specs.declared.value.FunctionValue.{FunctionValue}
use Rattle.bq_eval_rules.specs.Acts.{Acts}
use Rattle.bq_eval_rules.specs.Called.{HasFunction, IsCallee, LacksFunction, entered}
use Rattle.bq_eval_rules.specs.ContextCalls.{call_place}
use Rattle.bq_eval_rules.specs.Round.{globals_of, inside, units_at}
use Rattle.bq_eval_rules.specs.declared.called.ProgramFunction.{ProgramFunction}
use Rattle.bq_eval_rules.specs.declared.context.Context.{Context}

pub calls_step : {S : Type 0} (left : ℕ) (m : Primitives S) (units : Units Surroundings) (v : Datum) (p : Passed) (s : S) → calls left m by_slots units v p s ≡ apply m by_slots units (inner_calls left m by_slots units) v p s
unfolding calls inner_calls
calls_step zero m units v p s = refl
calls_step (suc left) m units v p s = refl

abbrev kind_in : EvalErr → EvalFault
kind_in (Bad kind) = kind
kind_in Memory = CallDepth

pub same_kind : (a b : EvalFault) → Bad a ≡ Bad b → a ≡ b
same_kind a b is = ap kind_in is

-- a body that may not run any more (F51)
pub no_body : {S : Type 0} (left : ℕ) (m : Primitives S) (units : Units Surroundings) (u : TreeUnit Surroundings) (d : Function) (env : Frame) (s : S) → left ≡ 0 → (why : EvalFault) → Bad CallDepth ≡ Bad why
    → run_body m by_slots (inner_calls left m by_slots units) u d env s ≡ stopped (stop_at why (m.machine s))
unfolding inner_calls run_body
no_body zero m units u d env s none why is = ap (λ k. stopped (stop_at k (m.machine s))) (ap kind_in is)
no_body (suc left) m units u d env s none why is = absurd (omega (arith, none))

-- a body that may run
pub body_runs : {S : Type 0} (left : ℕ) (m : Primitives S) (units : Units Surroundings) (u : TreeUnit Surroundings) (d : Function) (env : Frame) (s : S) (xs : List Stmt) → 0 < left → xs ≡ d.body
    → run_body m by_slots (inner_calls left m by_slots units) u d env s
    ≡ following (block m by_slots (eval_in m by_slots (calls (left - 1) m by_slots units) u.round) (run_in m by_slots (eval_in m by_slots (calls (left - 1) m by_slots units) u.round)) xs env s) (λ r. pure (answered r.0))
unfolding inner_calls run_body body_of
body_runs zero m units u d env s xs some all = absurd (omega (arith, some))
body_runs {S = S} (suc left) m units u d env s xs some all =
    let e : suc left - 1 ≡ left = omega arith in
    let run : ℕ → List Stmt → Run S Datum = λ k ys. following (block m by_slots (eval_in m by_slots (calls k m by_slots units) u.round) (run_in m by_slots (eval_in m by_slots (calls k m by_slots units) u.round)) ys env s) (λ r. pure (answered r.0)) in
    ap (run left) (sym all) ∙ ap (λ k. run k xs) (sym e)

pub inner_left : {S : Type 0} (left : ℕ) (m : Primitives S) (units : Units Surroundings) → 0 < left → inner_calls left m by_slots units ≡ Some (calls (left - 1) m by_slots units)
unfolding inner_calls
inner_left zero m units some = absurd (omega (arith, some))
inner_left (suc left) m units some = let e : suc left - 1 ≡ left = omega arith in rw e refl

-- the function of a module at a place
module _ {S : Type 0} (m : Primitives S) (units : Units Surroundings) (inner : Option (Calls S)) (home place : ℕ) (ds : List Datum) (p : Passed) (s : S) where
  in_unit : (found : Option (TreeUnit Surroundings)) → units home ≡ found
      → call_at m by_slots units inner home place ds p s ≡ known m found (λ u. known m (slice_get u.functions place) (λ d. call_function m by_slots inner home place u d ds p)) s
  unfolding call_at
  in_unit found is = ap (λ x. known m x (λ u. known m (slice_get u.functions place) (λ d. call_function m by_slots inner home place u d ds p)) s) is

  pub no_unit : units home ≡ None → (why : EvalFault) → Bad WrongType ≡ Bad why → call_at m by_slots units inner home place ds p s ≡ stopped (stop_at why (m.machine s))
  no_unit is why bad = in_unit None is ∙ ap (λ k. stopped (stop_at k (m.machine s))) (ap kind_in bad)

  pub no_function : (u : TreeUnit Surroundings) → units home ≡ Some u → length u.functions ≤ place → (why : EvalFault) → Bad WrongType ≡ Bad why → call_at m by_slots units inner home place ds p s ≡ stopped (stop_at why (m.machine s))
  no_function u is past why bad =
      in_unit (Some u) is ∙ (ap (λ x. known m x (λ d. call_function m by_slots inner home place u d ds p) s) (slice_get_past u.functions place past)
      ∙ ap (λ k. stopped (stop_at k (m.machine s))) (ap kind_in bad))

  pub known_function : (u : TreeUnit Surroundings) (d : Function) → units home ≡ Some u → place < length u.functions → d ≡ get_or u.functions place d
      → call_at m by_slots units inner home place ds p s ≡ call_function m by_slots inner home place u d ds p s
  known_function u d is within at =
      in_unit (Some u) is ∙ ap (λ x. known m x (λ d. call_function m by_slots inner home place u d ds p) s) (slice_get_read u.functions (length u.functions) place d refl within at)

-- a function value whose function a module has
module _ {S : Type 0} (m : Primitives S) (c : Context) (v : Datum) (f : FunctionValue) where
  abbrev callee_value : FunctionValue → Datum
  callee_value x = function x.«module» x.place x.name (data_of x.defaults.items)

  one_called : (k : ProgramFunction) → v ≡ callee_value k.called.now → HasFunction m c k → IsCallee m c v k
  unfolding inside apply entered call_function
  one_called k is has p s =
      let x = k.called.now in
      let units = units_at c.program.now (globals_of c.own) in
      ap (λ w. inside m c w p s) is
      ∙ (calls_step c.left m units (callee_value x) p s
      ∙ (ap (λ ds. call_place m c x.«module» x.place ds p s) (list_of_data_of x.defaults.items) ∙ has x.defaults.items p s))

  pub value_called : (o : Option ProgramFunction) → v ≡ callee_value f → MatchOption o (LacksFunction m c f) (λ k. (k.called.now ≡ f) × HasFunction m c k) → IfSome o (IsCallee m c v)
  value_called None is h = tt
  value_called (Some k) is h = one_called k (is ∙ ap callee_value (sym h.0)) h.1

-- an answer that needs no state is an action
pub given_acts : {S A B : Type 0} (m : Primitives S) (view : A → B) (result : Result A EvalErr) (s : S) (said : Result B EvalFault) → Gives view Bad result said → Acts m view result s (given_by m said s)
given_acts m view (Ok x) s said h = ap (λ r. given_by m r s) h
given_acts m view (Err e) s said h = λ why is. ap (λ r. given_by m r s) (h why is)
