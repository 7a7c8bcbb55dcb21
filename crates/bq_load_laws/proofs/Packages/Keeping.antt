-- What a host keeps has a property after all that a statement does, if it has it before, and each call of the host leaves it that is made
-- in the statement's line. So of the statements of a file each makes of what is kept what such calls may make of it.
use Rattle.std.proofs.Common.{◌≡◌, ℕ, Bool, true, false, List, [], ◌∷◌, Option, Some, None, Result, Ok, Err, refl, sym, subst}
use Rattle.std.specs.Prelude.{if◌then◌else◌}
use Rattle.bq_base.specs.declared.fault.EvalFault.{EvalFault}
use Rattle.bq_base.specs.declared.fault.EvalFault.TheVariants.{NotInPackage}
use Rattle.bq_predeclared.specs.declared.host_function.HostFunction.{HostFunction}
use Rattle.bq_predeclared.specs.declared.predeclared.Predeclared.{Predeclared}
use Rattle.bq_predeclared.specs.declared.predeclared.Predeclared.TheVariants as p
use Rattle.bq_predeclared.specs.declared.rule_function.RuleFunction.{RuleFunction}
use Rattle.bq_value_datum.specs.Class.{Class}
use Rattle.bq_resolve_scope.specs.Names.{Name}
use Rattle.bq_resolve_scope.specs.declared.file.FileLine.{FileLine}
use Rattle.bq_resolve_scope.specs.declared.file.ResolvedFile.{ResolvedFile}
use Rattle.bq_value.specs.Cells.{FrozenView, content_at, kind_of}
use Rattle.bq_value.specs.Datum.{Datum}
use Rattle.bq_value.specs.Truth.{truth_of}
use Rattle.bq_builtin_laws.specs.Steps.Steps.{hosted, InLine}
use Rattle.bq_builtin_machine.specs.Action.{Action, Run, done, stopped, following, given, beside, look, on_machine}
use Rattle.bq_builtin_machine.specs.Action as action
use Rattle.bq_builtin_machine.specs.Args.{Passed}
use Rattle.bq_builtin_machine.specs.State.{State, started}
use Rattle.bq_builtin_machine.specs.Machine as machine
use Rattle.bq_builtin_machine.specs.Cells as cells
use Rattle.bq_builtin_machine.specs.Iteration as iteration
use Rattle.bq_builtin_machine.specs.Calls as calls
use Rattle.bq_builtin_operators.specs.Operate as operate
use Rattle.bq_builtin_operators.specs.InPlace as in_place
use Rattle.bq_builtin_methods.specs.Call as methods
use Rattle.bq_builtin.specs.Call.{call_function}
use Rattle.bq_eval.specs.Module.{first_store, module_run}
use Rattle.bq_eval_laws.specs.Evaluations.Files.{HostTakes}
use Rattle.bq_eval_laws.proofs.Evaluations.Hosts.{OwnsItsSteps, own_steps}
use Rattle.bq_eval_spec.specs.Frame.{Frame, empty, Surroundings}
use Rattle.bq_eval_spec.specs.Calls.{Units}
use Rattle.bq_eval_spec.specs.Module.{Own, top_level, top_levels, eval_top, module_meaning}
use Rattle.bq_eval_spec.specs.Slots as slots
use Rattle.bq_eval_spec.specs.Slots.{by_slots, own_of, first_globals, frozen_units}
use Rattle.bq_eval_spec.specs.Statements.{Flow, next, leave, again, answer, go_on}
use Rattle.bq_package_attributes.specs.Call.{class_in, declare, call_rule_function, call_kind, call_class, call_cell}
use Rattle.bq_eval.specs.Calling.{HostCalls, call_built_in}
use Rattle.bq_eval.specs.Making as making
use Rattle.bq_eval.specs.Passing as passing
use Rattle.bq_eval.specs.Unpacking as unpacking
use Rattle.bq_eval.specs.Runtime.{primitives}
use Rattle.bq_eval_laws.proofs.ModuleRules.{outside_rule, top_rule}
use Rattle.bq_eval_laws.proofs.Respects.{Relation, Respects}

module _ {W : Type 0} (P : W → Type 0) where
  -- what is kept after it has the property
  abbrev pub Left : {A : Type 0} → Run (State × W) A → Type 0
  Left (done x s) = P s.1
  Left (stopped why) = Unit {0}

  pub beside_left : {A : Type 0} (w : W) → P w → (r : Run State A) → Left (beside w r)
  beside_left w h (done x s) = h
  beside_left w h (stopped why) = tt

abbrev Flowing : Type 0 → Type 0
Flowing W = Run (State × W) (Flow × Frame)

module _ {W : Type 0} (names : List Name) (host : HostCalls W) (units : Units Surroundings) (own : Own Surroundings Frame) where
  abbrev run_all : List FileLine → Frame → State × W → Flowing W
  run_all ts globals = top_levels (primitives names host) by_slots own (eval_top (primitives names host) by_slots units own) ts globals

  abbrev run_one : FileLine → Frame → State × W → Flowing W
  run_one t globals = top_level (primitives names host) by_slots own (eval_top (primitives names host) by_slots units own) t globals

look_stays : {W A : Type 0} (r : Result A EvalFault) (s : State × W) → InLine {S = State × W} hosted s.0.line (beside s.1 (given r s.0))
look_stays (Ok x) s = refl
look_stays (Err why) s = refl

module _ {W : Type 0} (At : ℕ → Type 0) (P : W → Type 0) where
  -- the relation, of an action and any other: the statement that is running stays in its line, and the property is left, where that is
  -- one of the lines
  abbrev Keeps : Relation (State × W)
  Keeps A a other = OwnsItsSteps W A a other × ((s : State × W) → At s.0.line → P s.1 → Left P (a s))

  followed : {A B : Type 0} (line : ℕ) (r : Run (State × W) A) (f : A → Action (State × W) B) → At line → InLine {S = State × W} hosted line r → Left P r
      → ((x : A) (s : State × W) → At s.0.line → P s.1 → Left P (f x s)) → Left P (following r f)
  followed line (done x s) f at same h later = later x s (subst At (sym same) at) h
  followed line (stopped why) f at same h later = tt

  module _ (names : List Name) (host : HostCalls W) (takes : HostTakes host) (hosts : (function : HostFunction) (args : Passed) (s : State × W) → At s.0.line → P s.1 → Left P (host.call function args s))
      (rules : (kind : List ℕ) (class : Class) (args : Passed) (s : State × W) → At s.0.line → P s.1 → Left P (host.call_rule kind class args s)) where
    built_in_keeps : (x : Predeclared) (args : Passed) (s : State × W) → At s.0.line → P s.1 → Left P (call_built_in host x args s)
    unfolding call_built_in
    built_in_keeps (p.Host f) args s at h = hosts f args s at h
    built_in_keeps x args s at h = beside_left P s.1 h (call_function x args s.0)

    rule_function_keeps : (function : RuleFunction) (args : Passed) (s : State × W) → P s.1 → Left P (call_rule_function host function args s)
    unfolding call_rule_function
    rule_function_keeps function args s h = beside_left P s.1 h (declare (host.read_default s.1) (host.in_build s.1) function args s.0)

    kind_keeps : (in_build : Bool) (kind : Option (List ℕ)) (class : Class) (args : Passed) (s : State × W) → At s.0.line → P s.1
        → Left P ((if in_build then call_kind host kind class args else on_machine (action.stop NotInPackage)) s)
    kind_keeps false kind class args s at h = tt
    kind_keeps true None class args s at h = tt
    kind_keeps true (Some kind) class args s at h = rules kind class args s at h

    class_keeps : (home number : ℕ) (class : Class) (args : Passed) (s : State × W) → At s.0.line → P s.1 → Left P (call_class host home number class args s)
    unfolding call_class
    class_keeps home number class args s at h = kind_keeps (host.in_build s.1) (kind_of s.0.store home number) class args s at h

    cell_keeps : (home number : ℕ) (args : Passed) (s : State × W) → At s.0.line → P s.1 → Left P (call_cell host home number args s)
    unfolding call_cell
    cell_keeps home number args s at h =
        followed s.0.line (on_machine (look (λ t. class_in (content_at t.store home number))) s) (λ class. call_class host home number class args) at
        (look_stays (class_in (content_at s.0.store home number)) s) (beside_left P s.1 h (look (λ t. class_in (content_at t.store home number)) s.0))
        (λ class t k. class_keeps home number class args t k)

    abbrev O : Respects (primitives names host) (OwnsItsSteps W)
    O = own_steps names host takes

    -- what a machine does leaves what is kept
    beside_keeps : {A : Type 0} (a : Action State A) → OwnsItsSteps W A (on_machine a) (on_machine a) → Keeps A (on_machine a) (on_machine a)
    beside_keeps a o = (o, λ s at h. beside_left P s.1 h (a s.0))

    all_keep : Respects (primitives names host) Keeps
    unfolding primitives
    all_keep = record {
      of_value = λ A x. (O.of_value A x, λ s at h. h);
      of_stop = λ A kind. (O.of_stop A kind, λ s at h. tt);
      of_both = λ A B a b f g h k. (O.of_both A B a b f g h.0 (λ x. (k x).0), λ s at q. followed s.0.line (a s) f at (h.0 s).line (h.1 s at q) (λ x. (k x).1));
      of_choice = λ A v a b c d h k. (O.of_choice A v a b c d h.0 k.0, λ s at q. chosen A a c s (truth_of s.0.store v) h k at q);
      of_step = λ n. beside_keeps (machine.step n) (O.of_step n);
      of_unary = λ o v. beside_keeps (operate.unary o v) (O.of_unary o v);
      of_binary = λ o v w. beside_keeps (operate.binary o v w) (O.of_binary o v w);
      of_compare = λ o v w. beside_keeps (operate.compare o v w) (O.of_compare o v w);
      of_augment = λ o v w. beside_keeps (in_place.augment o v w) (O.of_augment o v w);
      of_index = λ v i. beside_keeps (operate.index v i) (O.of_index v i);
      of_set_index = λ v i w. beside_keeps (in_place.set_index v i w) (O.of_set_index v i w);
      of_slice = λ v i j k. beside_keeps (operate.slice v i j k) (O.of_slice v i j k);
      of_make = λ c. beside_keeps (cells.new_content c) (O.of_make c);
      of_add = λ c v. beside_keeps (making.add c v) (O.of_add c v);
      of_add_pair = λ c k v. beside_keeps (making.add_pair c k v) (O.of_add_pair c k v);
      of_put_pair = λ c k v. beside_keeps (making.put_pair c k v) (O.of_put_pair c k v);
      of_parts = λ count v. beside_keeps (unpacking.parts count v) (O.of_parts count v);
      of_begin_walk = λ v. beside_keeps (iteration.begin_walk v) (O.of_begin_walk v);
      of_end_walk = λ v. (O.of_end_walk v, λ s at h. h);
      of_pass = λ q v. beside_keeps (passing.pass q v) (O.of_pass q v);
      of_pass_named = λ q name v. beside_keeps (passing.pass_named q name v) (O.of_pass_named q name v);
      of_pass_all = λ q v. beside_keeps (passing.pass_all q v) (O.of_pass_all q v);
      of_pass_all_named = λ q v. beside_keeps (passing.pass_all_named q v) (O.of_pass_all_named q v);
      of_built_in = λ x q. (O.of_built_in x q, built_in_keeps x q);
      of_rule_function = λ function q. (O.of_rule_function function q, λ s at h. rule_function_keeps function q s h);
      of_cell = λ home number q. (O.of_cell home number q, cell_keeps home number q);
      of_method = λ name v q. beside_keeps (methods.call_method name v q) (O.of_method name v q);
      of_enter = λ home place. beside_keeps (calls.enter home place) (O.of_enter home place);
      of_leave = (O.of_leave, λ s at h. h);
    }
      where
        chosen : (A : Type 0) (a c : Action (State × W) A) (s : State × W) (t : Bool) → Keeps A a a → Keeps A c c → At s.0.line → P s.1 → Left P ((if t then a else c) s)
        chosen A a c s true h k at q = h.1 s at q
        chosen A a c s false h k at q = k.1 s at q

    -- so does a statement in one of the lines
    pub one_keeps : (units : Units Surroundings) (own : Own Surroundings Frame) (t : FileLine) → At t.line → (globals : Frame) (s : State × W) → P s.1 → Left P (run_one names host units own t globals s)
    unfolding top_level primitives
    one_keeps units own t at globals s h =
        (outside_rule (primitives names host) by_slots Keeps all_keep own (eval_top (primitives names host) by_slots units own) (top_rule (primitives names host) by_slots Keeps all_keep own units) t.statement globals).1
        (record s.0 { line = t.line }, s.1) at h

-- ---- the statements of a file, one after another

-- what they make of what is kept, each in its line
module _ {W : Type 0} (Step : ℕ → W → W → Type 0) where
  abbrev pub Goes : List FileLine → W → W → Type 0
  Goes [] k last = last ≡ k
  Goes (t ∷ ts) k last = (between : W) × Step t.line k between × Goes ts between last

  module _ (idle : (line : ℕ) (k : W) → Step line k k) where
    idle_goes : (ts : List FileLine) (k : W) → Goes ts k k
    idle_goes [] k = refl
    idle_goes (t ∷ ts) k = (k, idle t.line k, idle_goes ts k)

    module _ (names : List Name) (host : HostCalls W) (takes : HostTakes host)
        (hosts : (line : ℕ) (k : W) (function : HostFunction) (args : Passed) (s : State × W) → s.0.line ≡ line → Step line k s.1 → Left (Step line k) (host.call function args s))
        (rules : (line : ℕ) (k : W) (kind : List ℕ) (class : Class) (args : Passed) (s : State × W) → s.0.line ≡ line → Step line k s.1 → Left (Step line k) (host.call_rule kind class args s)) where
      module _ (units : Units Surroundings) (own : Own Surroundings Frame) where
        one_goes : (t : FileLine) (globals : Frame) (s : State × W) → Left (Step t.line s.1) (run_one names host units own t globals s)
        one_goes t globals s = one_keeps (λ n. n ≡ t.line) (Step t.line s.1) names host takes (hosts t.line s.1) (rules t.line s.1) units own t refl globals s (idle t.line s.1)

        then_goes : (t : FileLine) (ts : List FileLine) (k between : W) → Step t.line k between → (r : Flowing W) → Left (Goes ts between) r → Left (Goes (t ∷ ts) k) r
        then_goes t ts k between step (done x s) h = (between, step, h)
        then_goes t ts k between step (stopped why) h = tt

        after_one : (t : FileLine) (ts : List FileLine) (k : W) (r : Flowing W) → Left (Step t.line k) r → ((globals : Frame) (s : State × W) → Left (Goes ts s.1) (run_all names host units own ts globals s))
            → Left (Goes (t ∷ ts) k) (following r (go_on (run_all names host units own ts)))
        after_one t ts k (stopped why) h rest = tt
        after_one t ts k (done (next, globals) s) h rest = then_goes t ts k s.1 h (run_all names host units own ts globals s) (rest globals s)
        after_one t ts k (done (leave, globals) s) h rest = (s.1, h, idle_goes ts s.1)
        after_one t ts k (done (again, globals) s) h rest = (s.1, h, idle_goes ts s.1)
        after_one t ts k (done (answer v, globals) s) h rest = (s.1, h, idle_goes ts s.1)

        statements_go : (ts : List FileLine) (globals : Frame) (s : State × W) → Left (Goes ts s.1) (run_all names host units own ts globals s)
        unfolding top_levels
        statements_go [] globals s = refl
        statements_go (t ∷ ts) globals s = after_one t ts s.1 (run_one names host units own t globals s) (one_goes t globals s) (statements_go ts)

      with_globals : (ts : List FileLine) (k : W) (r : Flowing W) → Left (Goes ts k) r → Left (Goes ts k) (following r (λ u. λ s. done u.1 s))
      with_globals ts k (done u s) h = h
      with_globals ts k (stopped why) h = tt

      pub file_goes : (files : List (Option ResolvedFile)) (number : ℕ) (file : ResolvedFile) (loaded : List FrozenView) (imports : List Datum) (limit : ℕ) (kept : W)
          → Left (Goes file.statements kept) (module_run names host files number file loaded imports limit kept)
      unfolding module_run slots.module_meaning module_meaning
      file_goes files number file loaded imports limit kept =
          let own : Own Surroundings Frame = own_of number file imports in
          let units = frozen_units files loaded in
          let s : State × W = (started (first_store number loaded) limit, kept) in
          let globals = first_globals file.loads imports empty in
          with_globals file.statements kept (run_all names host units own file.statements globals s) (statements_go units own file.statements globals s)
