-- What the rules ask for has numbers of steps and outcomes of its own, beside what a host keeps: a relation that respects the rules.
use Rattle.std.proofs.Common.{◌≡◌, ◌∙◌, ℕ, Bool, true, false, List, Option, Some, None, refl, ap, subst}
use Rattle.std.specs.Prelude.{if◌then◌else◌}
use Rattle.bq_base.specs.declared.fault.EvalFault.TheVariants.{BadValue, NotInPackage}
use Rattle.bq_predeclared.specs.declared.predeclared.Predeclared.{Predeclared}
use Rattle.bq_predeclared.specs.declared.predeclared.Predeclared.TheVariants as p
use Rattle.bq_predeclared.specs.declared.rule_function.RuleFunction.{RuleFunction}
use Rattle.bq_predeclared.specs.declared.rule_function.RuleFunction.TheVariants as f
use Rattle.bq_value_datum.specs.Class.{Class}
use Rattle.bq_resolve_scope.specs.Names.{Name}
use Rattle.bq_value.specs.Cells.{content_at, kind_of}
use Rattle.bq_value.specs.Contents.{rule}
use Rattle.bq_value.specs.Datum as datum
use Rattle.bq_value.specs.Datum.{Datum}
use Rattle.bq_value.specs.Truth.{truth_of}
use Rattle.bq_builtin_machine.specs.Action.{Action, Run, done, stopped, pure, look, beside, on_machine}
use Rattle.bq_builtin_machine.specs.Action as action
use Rattle.bq_builtin_machine.specs.Args.{Passed}
use Rattle.bq_builtin_machine.specs.Cells.{new_content}
use Rattle.bq_builtin_machine.specs.Machine.{with_steps}
use Rattle.bq_builtin_machine.specs.State.{State}
use Rattle.bq_builtin.specs.Call.{call_function}
use Rattle.bq_package_attributes.specs.Attribute.{attribute}
use Rattle.bq_package_values.specs.Host.{ReadDefault}
use Rattle.bq_package_attributes.specs.Call.{new_attribute, new_rule, declare, call_rule_function, class_in, call_kind, call_class, call_cell}
use Rattle.bq_package_attributes.specs.Rule.{class}
use Rattle.bq_eval.specs.Calling.{HostCalls, call_built_in}
use Rattle.bq_eval.specs.Runtime.{primitives}
use Rattle.bq_eval_laws.proofs.Respects.{Relation, Respects, OfLines, choosing}
use Rattle.bq_eval_laws.specs.Evaluations.Files.{HostTakes}
use Rattle.bq_builtin_laws.specs.Steps.Steps.{machine, hosted, Begins, leaving, printed, IsCutShort, Leaves, Takes, InLine, TakesInLine}
use Rattle.bq_builtin_laws.proofs.Steps.Owning.{begins_itself, stays_itself, at_state, followed, here_at_no_cost, here_at_state, here_followed}
use Rattle.bq_builtin_laws.specs.Steps.Laws.{Own}
use Rattle.bq_builtin_laws.proofs.Steps.Machine.{pure_owns, stop_owns, bind_owns, look_owns, step_owns, enter_owns, leave_owns, new_owns, begin_owns, end_owns, line_takes}
use Rattle.bq_builtin_laws.proofs.Steps.Operators.{binary_owns, unary_owns, compare_owns, index_owns, slice_owns, augment_owns, set_index_owns}
use Rattle.bq_eval_laws.proofs.Evaluations.Making.{add_owns, put_pair_owns, add_pair_owns, pass_owns, pass_named_owns, pass_all_owns, pass_all_named_owns, parts_owns}
use Rattle.bq_builtin_laws.proofs.Steps.Methods.{method_owns}
use Rattle.bq_builtin_laws.proofs.Steps.Functions.{function_owns}

-- ---- what a machine does, beside what a host keeps

module _ {W A : Type 0} (w : W) where
  beside_more : (n : ℕ) (r : Run State A) → beside w (leaving machine n r) ≡ leaving hosted n (beside w r)
  beside_more n (done x s) = refl
  beside_more n (stopped why) = refl

  beside_prints : (r : Run State A) → printed machine r ≡ printed hosted (beside w r)
  beside_prints (done x s) = refl
  beside_prints (stopped why) = refl

  beside_short : (r : Run State A) (ps : List (List ℕ)) → IsCutShort machine r ps → IsCutShort hosted (beside w r) ps
  beside_short (done x s) ps h = h
  beside_short (stopped why) ps h = h

  beside_leaves : (s : State) (r : Run State A) → Leaves machine s.store r → Leaves {S = State × W} hosted s.store (beside w r)
  beside_leaves s (done x t) h = h
  beside_leaves s (stopped why) h = tt

  pub beside_takes : (a : Action State A) (s : State) → Takes machine a s → Takes hosted (on_machine a) (s, w)
  beside_takes a s o = record {
    steps = o.steps;
    outcome = beside w o.outcome;
    enough = λ more. ap (beside w) (o.enough more) ∙ beside_more more o.outcome;
    short = λ n h. subst (λ ps. IsCutShort hosted (beside w (a (with_steps n s))) ps) (beside_prints o.outcome) (beside_short (a (with_steps n s)) (printed machine o.outcome) (o.short n h));
    grows = subst (λ ps. Begins s.prints ps) (beside_prints o.outcome) o.grows;
    leaves = beside_leaves s o.outcome o.leaves;
  }

  beside_line : (line : ℕ) (r : Run State A) → InLine machine line r → InLine {S = State × W} hosted line (beside w r)
  beside_line line (done x s) h = h
  beside_line line (stopped why) h = h

  pub beside_owns : (a : Action State A) (s : State) → TakesInLine machine a s → TakesInLine hosted (on_machine a) (s, w)
  beside_owns a s o = record { takes = beside_takes a s o.takes; line = beside_line s.line (a s) o.line }

-- an action beside what a host keeps, in any state
abbrev pub HostOwns : {W A : Type 0} → Action (State × W) A → Type 0
HostOwns {W = W} a = (s : State × W) → TakesInLine hosted a s

-- the relation, of an action and any other
abbrev pub OwnsItsSteps : (W : Type 0) → Relation (State × W)
OwnsItsSteps W A a other = HostOwns {W = W} {A = A} a

module _ {W : Type 0} (names : List Name) (host : HostCalls W) (hosts : HostTakes host) where
  lifted : (A : Type 0) (a : Action State A) → Own a → HostOwns {W = W} {A = A} (on_machine a)
  lifted A a h s = beside_owns s.1 a s.0 (h s.0)

  built_in_owns : (x : Predeclared) (args : Passed) → HostOwns (call_built_in host x args)
  unfolding call_built_in
  built_in_owns (p.Host f) args = hosts.0 f args
  built_in_owns x args = lifted Datum (call_function x args) (function_owns x args)

  -- ---- what declares rules, and rules

  declare_owns : (read : ReadDefault) (in_build : Bool) (function : RuleFunction) (args : Passed) → Own (declare read in_build function args)
  unfolding new_attribute new_rule
  declare_owns read in_build f.Rule args = bind_owns (look (λ s. class in_build s.store args)) (λ x. new_content (rule x)) (look_owns (λ s. class in_build s args)) (λ x. new_owns (rule x))
  declare_owns read in_build (f.Attr type) args =
      bind_owns (look (λ s. attribute read s.store type args)) (λ x. pure (datum.attribute x)) (look_owns (λ s. attribute read s type args)) (λ x. pure_owns (datum.attribute x))

  rule_function_owns : (function : RuleFunction) (args : Passed) → HostOwns (call_rule_function host function args)
  unfolding call_rule_function
  rule_function_owns function args s =
      let declared : Action State Datum = declare (host.read_default s.1) (host.in_build s.1) function args in
      here_at_state hosted (call_rule_function host function args) (on_machine declared) s (λ n. refl) refl (lifted Datum declared (declare_owns (host.read_default s.1) (host.in_build s.1) function args) s)

  kind_owns : (kind : Option (List ℕ)) (x : Class) (args : Passed) → HostOwns (call_kind host kind x args)
  kind_owns None x args = lifted Datum (action.stop BadValue) (stop_owns Datum BadValue)
  kind_owns (Some kind) x args = hosts.1 kind x args

  either_owns : {A : Type 0} (t : Bool) (a c : Action (State × W) A) → HostOwns a → HostOwns c → HostOwns (if t then a else c)
  either_owns true a c h k = h
  either_owns false a c h k = k

  class_owns : (home number : ℕ) (x : Class) (args : Passed) → HostOwns (call_class host home number x args)
  unfolding call_class
  class_owns home number x args s =
      let outside : Action (State × W) Datum = on_machine (action.stop NotInPackage) in
      let inside : Action (State × W) Datum = call_kind host (kind_of s.0.store home number) x args in
      here_at_state hosted (call_class host home number x args) (if host.in_build s.1 then inside else outside) s (λ n. refl) refl
      (either_owns (host.in_build s.1) inside outside (kind_owns (kind_of s.0.store home number) x args) (lifted Datum (action.stop NotInPackage) (stop_owns Datum NotInPackage)) s)

  cell_owns : (home number : ℕ) (args : Passed) → HostOwns (call_cell host home number args)
  unfolding call_cell
  cell_owns home number args s =
      let found : Action State Class = look (λ t. class_in (content_at t.store home number)) in
      here_followed hosted (on_machine found) (λ x. call_class host home number x args) s (lifted Class found (look_owns (λ t. class_in (content_at t home number))) s) (λ x t. class_owns home number x args t)

  pub own_steps : Respects (primitives names host) (OwnsItsSteps W)
  unfolding primitives
  own_steps = record {
    of_value = λ A x s. here_at_no_cost hosted (pure x) s (done x s) (λ n. refl) (begins_itself s.0.prints) (stays_itself s.0.store) refl;
    of_stop = λ A kind. lifted A (action.stop kind) (stop_owns A kind);
    of_both = λ A B a b f g h k s. here_followed hosted a f s (h s) k;
    of_choice = λ A v a b c d h k s. chosen A v a c s (truth_of s.0.store v) h k;
    of_step = λ n. lifted (Unit {0}) _ (step_owns n);
    of_unary = λ o v. lifted Datum _ (unary_owns o v);
    of_binary = λ o v w. lifted Datum _ (binary_owns o v w);
    of_compare = λ o v w. lifted Datum _ (compare_owns o v w);
    of_augment = λ o v w. lifted Datum _ (augment_owns o v w);
    of_index = λ v i. lifted Datum _ (index_owns v i);
    of_set_index = λ v i w. lifted (Unit {0}) _ (set_index_owns v i w);
    of_slice = λ v i j k. lifted Datum _ (slice_owns v i j k);
    of_make = λ c. lifted Datum _ (new_owns c);
    of_add = λ c v. lifted _ _ (add_owns c v);
    of_add_pair = λ c k v. lifted _ _ (add_pair_owns c k v);
    of_put_pair = λ c k v. lifted _ _ (put_pair_owns c k v);
    of_parts = λ count v. lifted (List Datum) _ (parts_owns count v);
    of_begin_walk = λ v. lifted (List Datum) _ (begin_owns v);
    of_end_walk = λ v. lifted (Unit {0}) _ (end_owns v);
    of_pass = λ q v. lifted Passed _ (pass_owns q v);
    of_pass_named = λ q name v. lifted Passed _ (pass_named_owns q name v);
    of_pass_all = λ q v. lifted Passed _ (pass_all_owns q v);
    of_pass_all_named = λ q v. lifted Passed _ (pass_all_named_owns q v);
    of_built_in = λ x q. built_in_owns x q;
    of_rule_function = λ function q. rule_function_owns function q;
    of_cell = λ home number q. cell_owns home number q;
    of_method = λ name v q. lifted Datum _ (method_owns name v q);
    of_enter = λ home place. lifted (Unit {0}) _ (enter_owns home place);
    of_leave = lifted (Unit {0}) _ leave_owns;
  }
    where
      chosen_by : (A : Type 0) (a c : Action (State × W) A) (s : State × W) (t : Bool) → HostOwns a → HostOwns c → TakesInLine hosted (λ u. (if t then a else c) u) s
      chosen_by A a c s true h k = h s
      chosen_by A a c s false h k = k s

      chosen : (A : Type 0) (v : Datum) (a c : Action (State × W) A) (s : State × W) (t : Bool) → HostOwns a → HostOwns c → TakesInLine hosted (λ u. (if truth_of u.0.store v then a else c) u) s
      chosen A v a c s t h k =
          here_at_state hosted (λ u. (if truth_of u.0.store v then a else c) u) (λ u. (if truth_of s.0.store v then a else c) u) s (λ n. refl) refl (chosen_by A a c s (truth_of s.0.store v) h k)

-- ---- the steps alone, which the beginning of a statement has too

abbrev pub HostTakesSteps : {W A : Type 0} → Action (State × W) A → Type 0
HostTakesSteps {W = W} a = (s : State × W) → Takes hosted a s

abbrev pub TakesItsSteps : (W : Type 0) → Relation (State × W)
TakesItsSteps W A a other = HostTakesSteps {W = W} {A = A} a

module _ {W : Type 0} (names : List Name) (host : HostCalls W) (hosts : HostTakes host) where
  abbrev O : Respects (primitives names host) (OwnsItsSteps W)
  O = own_steps names host hosts

  pub take_steps : Respects (primitives names host) (TakesItsSteps W)
  unfolding primitives
  take_steps = record {
    of_value = λ A x s. (O.of_value A x s).takes;
    of_stop = λ A kind s. (O.of_stop A kind s).takes;
    of_both = λ A B a b f g h k s. followed hosted a f s (h s) k;
    of_choice = λ A v a b c d h k s. chosen A v a c s h k;
    of_step = λ n s. (O.of_step n s).takes;
    of_unary = λ o v s. (O.of_unary o v s).takes;
    of_binary = λ o v w s. (O.of_binary o v w s).takes;
    of_compare = λ o v w s. (O.of_compare o v w s).takes;
    of_augment = λ o v w s. (O.of_augment o v w s).takes;
    of_index = λ v i s. (O.of_index v i s).takes;
    of_set_index = λ v i w s. (O.of_set_index v i w s).takes;
    of_slice = λ v i j k s. (O.of_slice v i j k s).takes;
    of_make = λ c s. (O.of_make c s).takes;
    of_add = λ c v s. (O.of_add c v s).takes;
    of_add_pair = λ c k v s. (O.of_add_pair c k v s).takes;
    of_put_pair = λ c k v s. (O.of_put_pair c k v s).takes;
    of_parts = λ count v s. (O.of_parts count v s).takes;
    of_begin_walk = λ v s. (O.of_begin_walk v s).takes;
    of_end_walk = λ v s. (O.of_end_walk v s).takes;
    of_pass = λ q v s. (O.of_pass q v s).takes;
    of_pass_named = λ q name v s. (O.of_pass_named q name v s).takes;
    of_pass_all = λ q v s. (O.of_pass_all q v s).takes;
    of_pass_all_named = λ q v s. (O.of_pass_all_named q v s).takes;
    of_built_in = λ x q s. (O.of_built_in x q s).takes;
    of_rule_function = λ function q s. (O.of_rule_function function q s).takes;
    of_cell = λ home number q s. (O.of_cell home number q s).takes;
    of_method = λ name v q s. (O.of_method name v q s).takes;
    of_enter = λ home place s. (O.of_enter home place s).takes;
    of_leave = λ s. (O.of_leave s).takes;
  }
    where
      chosen_by : (A : Type 0) (a c : Action (State × W) A) (s : State × W) (t : Bool) → HostTakesSteps a → HostTakesSteps c → Takes hosted (λ u. (if t then a else c) u) s
      chosen_by A a c s true h k = h s
      chosen_by A a c s false h k = k s

      chosen : (A : Type 0) (v : Datum) (a c : Action (State × W) A) (s : State × W) → HostTakesSteps a → HostTakesSteps c → Takes hosted (choosing (primitives names host) v a c) s
      chosen A v a c s h k =
          at_state hosted (choosing (primitives names host) v a c) (λ u. (if truth_of s.0.store v then a else c) u) s (λ n. refl) (chosen_by A a c s (truth_of s.0.store v) h k)

  pub lines_take : OfLines (primitives names host) (TakesItsSteps W)
  unfolding primitives
  lines_take n s = beside_takes s.1 _ s.0 (line_takes n s.0)
