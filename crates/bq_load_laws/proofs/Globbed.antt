-- A BUILD file's evaluation sees of the paths of all files what `glob` gives.
use Rattle.std.proofs.Common.{◌≡◌, ◌∙◌, ℕ, Bool, true, false, List, [], ◌∷◌, Option, Some, None, Result, Ok, Err, refl, sym, ap}
use Rattle.std.specs.Prelude.{◌||◌, if◌then◌else◌}
use Rattle.std.specs.List.{filter, list_any}
use Rattle.std.proofs.Math.Path.{fun_ext}
use Rattle.bq_base.specs.declared.fault.EvalFault.{EvalFault}
use Rattle.bq_base.specs.declared.fault.EvalFault.TheVariants.{BadValue, GlobEmpty, NotInPackage}
use Rattle.bq_label_glob.specs.Names.{glob, is_wanted, names_in}
use Rattle.bq_predeclared.specs.declared.host_function.HostFunction.{HostFunction}
use Rattle.bq_predeclared.specs.declared.host_function.HostFunction.TheVariants as b
use Rattle.bq_predeclared.specs.declared.predeclared.Predeclared.{Predeclared}
use Rattle.bq_predeclared.specs.declared.predeclared.Predeclared.TheVariants as p
use Rattle.bq_predeclared.specs.declared.rule_function.RuleFunction.{RuleFunction}
use Rattle.bq_resolve_scope.specs.Names.{Name}
use Rattle.bq_resolve_scope.specs.declared.file.ResolvedFile.{ResolvedFile}
use Rattle.bq_value.specs.Cells.{StoreView, FrozenView, content_at, kind_of}
use Rattle.bq_value.specs.Datum.{Datum}
use Rattle.bq_value.specs.Truth.{truth_of}
use Rattle.bq_value_datum.specs.Class.{Class}
use Rattle.bq_builtin.specs.Call.{call_function}
use Rattle.bq_builtin_machine.specs.Action.{Action, Run, done, stopped, ◌>>=◌, following, given, look, beside, on_machine}
use Rattle.bq_builtin_machine.specs.Action as action
use Rattle.bq_builtin_machine.specs.Args.{Passed}
use Rattle.bq_builtin_machine.specs.Binding.{bind}
use Rattle.bq_builtin_machine.specs.Calls as calls
use Rattle.bq_builtin_machine.specs.Cells as cells
use Rattle.bq_builtin_machine.specs.Iteration as iteration
use Rattle.bq_builtin_machine.specs.Machine as machine
use Rattle.bq_builtin_machine.specs.State.{State, started}
use Rattle.bq_builtin_operators.specs.InPlace as in_place
use Rattle.bq_builtin_methods.specs.Call as methods
use Rattle.bq_builtin_operators.specs.Operate as operate
use Rattle.bq_eval_spec.specs.Frame.{Frame}
use Rattle.bq_eval_spec.specs.Slots.{frozen_units}
use Rattle.bq_eval_laws.proofs.Respects.{Relation, Respects, OfLines}
use Rattle.bq_eval_laws.proofs.ModuleRules.{module_rule}
use Rattle.bq_eval.specs.Calling.{call_built_in}
use Rattle.bq_eval.specs.Making as making
use Rattle.bq_eval.specs.Passing as passing
use Rattle.bq_eval.specs.Runtime.{primitives}
use Rattle.bq_eval.specs.Unpacking as unpacking
use Rattle.bq_eval.specs.Module.{first_store, module_run}
use Rattle.bq_package_attributes.specs.Call.{call_rule_function, call_kind, call_class, call_cell, class_in, declare}
use Rattle.bq_package_target.specs.declared.state.Declared.{Declared}
use Rattle.bq_package_target.specs.declared.state.Declared.TheVariants.{Accepted, Refused}
use Rattle.bq_package_target.specs.Calls.{declared, exported}
use Rattle.bq_package_values.specs.Steps.{and_then}
use Rattle.bq_package.specs.declared.glob.GlobRequest.{GlobRequest}
use Rattle.bq_package.specs.Bound.{glob_parameters}
use Rattle.bq_package.specs.Calls.{HeldPackage, Declaring, outside, declaring, meaning, is_building, default_value, new_strings, package_name, ignored, settled, declares, call_in, call_by, call_of, rule_by, rule_call, package_in}
use Rattle.bq_package.specs.Files.{files_named}
use Rattle.bq_package.specs.Glob.{found, globbed, is_nothing, names_of, request_of}
use Rattle.bq_package.specs.Groups.{group_named, group_of, group_labels}
use Rattle.bq_package.specs.Place.{PlaceView}
use Rattle.bq_package.specs.Rules.{declared_target, rule_target, target_by}
use Rattle.bq_load_module.specs.Run.{module_after, module_by}
use Rattle.bq_eval.specs.Module.{ended}

module _ (paths : List (List ℕ)) where
  -- the place, with these paths
  abbrev pub with_paths : PlaceView → PlaceView
  with_paths p = record { own = p.own; paths = paths; packages = p.packages; rules = p.rules }

  abbrev pub moved_in : Declaring → Declaring
  moved_in d = record { place = with_paths d.place; «package» = d.package }

  -- what a host keeps, with these paths
  abbrev pub moved : HeldPackage → HeldPackage
  moved (outside own packages) = outside own packages
  moved (declaring d) = declaring (moved_in d)

  -- `glob` gives the same of these paths
  abbrev pub GlobsAlike : PlaceView → Type 0
  GlobsAlike p = (include exclude : List (List ℕ)) → names_of (with_paths p) include exclude ≡ names_of p include exclude

  abbrev pub IsAlike : HeldPackage → Type 0
  IsAlike (outside own packages) = Unit {0}
  IsAlike (declaring d) = GlobsAlike d.place

  abbrev pub run_moved : {A : Type 0} → Run (State × HeldPackage) A → Run (State × HeldPackage) A
  run_moved (done x s) = done x (s.0, moved s.1)
  run_moved (stopped why) = stopped why

  abbrev StaysAlike : {A : Type 0} → Run (State × HeldPackage) A → Type 0
  StaysAlike (done x s) = IsAlike s.1
  StaysAlike (stopped why) = Unit {0}

  -- an action does the same with these paths
  record Moves (A : Type 0) (a : Action (State × HeldPackage) A) : Type 0 where
    same : (s : State) (w : HeldPackage) → IsAlike w → a (s, moved w) ≡ run_moved (a (s, w))
    stays : (s : State) (w : HeldPackage) → IsAlike w → StaysAlike (a (s, w))

  -- ---- one action after another, and a choice

  after_same : {A B : Type 0} (f : A → Action (State × HeldPackage) B) → ((x : A) → Moves B (f x)) → (r : Run (State × HeldPackage) A) → StaysAlike r → following (run_moved r) f ≡ run_moved (following r f)
  after_same f fs (done x t) h = (fs x).same t.0 t.1 h
  after_same f fs (stopped why) h = refl

  after_stays : {A B : Type 0} (f : A → Action (State × HeldPackage) B) → ((x : A) → Moves B (f x)) → (r : Run (State × HeldPackage) A) → StaysAlike r → StaysAlike (following r f)
  after_stays f fs (done x t) h = (fs x).stays t.0 t.1 h
  after_stays f fs (stopped why) h = tt

  both : (A B : Type 0) (a : Action (State × HeldPackage) A) (f : A → Action (State × HeldPackage) B) → Moves A a → ((x : A) → Moves B (f x)) → Moves B (a >>= f)
  both A B a f h fs = record {
    same = λ s w alike. ap (λ (r : Run (State × HeldPackage) A). following r f) (h.same s w alike) ∙ after_same f fs (a (s, w)) (h.stays s w alike);
    stays = λ s w alike. after_stays f fs (a (s, w)) (h.stays s w alike);
  }

  chosen_same : (A : Type 0) (t : Bool) (a c : Action (State × HeldPackage) A) → Moves A a → Moves A c → (s : State) (w : HeldPackage) → IsAlike w
      → (if t then a else c) (s, moved w) ≡ run_moved ((if t then a else c) (s, w))
  chosen_same A true a c h k s w alike = h.same s w alike
  chosen_same A false a c h k s w alike = k.same s w alike

  chosen_stays : (A : Type 0) (t : Bool) (a c : Action (State × HeldPackage) A) → Moves A a → Moves A c → (s : State) (w : HeldPackage) → IsAlike w → StaysAlike ((if t then a else c) (s, w))
  chosen_stays A true a c h k s w alike = h.stays s w alike
  chosen_stays A false a c h k s w alike = k.stays s w alike

  -- ---- what the machine does alone

  beside_same : {A : Type 0} (w : HeldPackage) (r : Run State A) → beside (moved w) r ≡ run_moved (beside w r)
  beside_same w (done x s) = refl
  beside_same w (stopped why) = refl

  beside_stays : {A : Type 0} (w : HeldPackage) → IsAlike w → (r : Run State A) → StaysAlike (beside w r)
  beside_stays w alike (done x s) = alike
  beside_stays w alike (stopped why) = tt

  lifted : (A : Type 0) (a : Action State A) → Moves A (on_machine a)
  lifted A a = record { same = λ s w alike. beside_same w (a s); stays = λ s w alike. beside_stays w alike (a s) }

  changed : (f : State → State) → Moves (Unit {0}) (λ s. done tt (f s.0, s.1))
  changed f = record { same = λ s w alike. refl; stays = λ s w alike. alike }

  -- ---- a call of `glob`

  found_by : (List (List ℕ) → List (List ℕ) → List (List ℕ)) → GlobRequest → Result (List (List ℕ)) EvalFault
  found_by names r =
      if r.allows_empty then Ok (names r.include r.exclude)
      else (if list_any (λ pattern. is_nothing (names (pattern ∷ []) [])) r.include || is_nothing (names r.include r.exclude) then Err GlobEmpty else Ok (names r.include r.exclude))

  found_so : (p : PlaceView) (r : GlobRequest) → found p r ≡ found_by (names_of p) r
  unfolding found found_by
  found_so p r = refl

  found_same : (p : PlaceView) → GlobsAlike p → (r : GlobRequest) → found (with_paths p) r ≡ found p r
  found_same p alike r =
      let names : names_of (with_paths p) ≡ names_of p = fun_ext (λ include. fun_ext (λ exclude. alike include exclude)) in
      found_so (with_paths p) r ∙ (ap (λ (f : List (List ℕ) → List (List ℕ) → List (List ℕ)). found_by f r) names ∙ sym (found_so p r))

  globbed_same : (p : PlaceView) → GlobsAlike p → (store : StoreView) (passed : Passed) → globbed (with_paths p) store passed ≡ globbed p store passed
  unfolding globbed
  globbed_same p alike store passed =
      let by : found (with_paths p) ≡ found p = fun_ext (found_same p alike) in
      ap (λ (f : GlobRequest → Result (List (List ℕ)) EvalFault). and_then (bind glob_parameters passed) (λ b. and_then (request_of store b.values) f)) by

  -- ---- calls that declare

  settled_same : (s : State) (d : Declaring) (r : Declared) → settled s (moved_in d) r ≡ run_moved (settled s d r)
  settled_same s d (Accepted after) = refl
  settled_same s d (Refused after) = refl

  settled_stays : (s : State) (d : Declaring) → GlobsAlike d.place → (r : Declared) → StaysAlike (settled s d r)
  settled_stays s d alike (Accepted after) = alike
  settled_stays s d alike (Refused after) = tt

  declares_same : {A : Type 0} (s : State) (d : Declaring) (r : Result A EvalFault) (f : A → Declared) → declares s (moved_in d) r f ≡ run_moved (declares s d r f)
  declares_same s d (Ok a) f = settled_same s d (f a)
  declares_same s d (Err why) f = refl

  declares_stays : {A : Type 0} (s : State) (d : Declaring) → GlobsAlike d.place → (r : Result A EvalFault) (f : A → Declared) → StaysAlike (declares s d r f)
  declares_stays s d alike (Ok a) f = settled_stays s d alike (f a)
  declares_stays s d alike (Err why) f = tt

  files_same : (p : PlaceView) (store : StoreView) (passed : Passed) → files_named (with_paths p) store passed ≡ files_named p store passed
  unfolding files_named
  files_same p store passed = refl

  group_same : (p : PlaceView) (store : StoreView) (line : ℕ) (passed : Passed) → group_named (with_paths p) store line passed ≡ group_named p store line passed
  unfolding group_named group_of group_labels
  group_same p store line passed = refl

  declared_same : (p : PlaceView) (store : StoreView) (line : ℕ) (rule : List ℕ) (class : Class) (passed : Passed) → declared_target (with_paths p) store line rule class passed ≡ declared_target p store line rule class passed
  unfolding declared_target
  declared_same p store line rule class passed = refl

  by_rule : (p : PlaceView) (store : StoreView) (line : ℕ) (name : Option (List ℕ)) (class : Option Class) (passed : Passed) → target_by (with_paths p) store line name class passed ≡ target_by p store line name class passed
  by_rule p store line None class passed = refl
  by_rule p store line (Some rule) None passed = refl
  by_rule p store line (Some rule) (Some class) passed = declared_same p store line rule class passed

  rule_same : (p : PlaceView) (store : StoreView) (line rule : ℕ) (passed : Passed) → rule_target (with_paths p) store line rule passed ≡ rule_target p store line rule passed
  unfolding rule_target
  rule_same p store line rule passed = by_rule p store line _ _ passed

  name_same : (p : PlaceView) (passed : Passed) → package_name (with_paths p) passed ≡ package_name p passed
  unfolding package_name
  name_same p passed = refl

  -- a call that declares what is the same with these paths
  declares_so : {A : Type 0} (s : State) (d : Declaring) (q r : Result A EvalFault) (f : A → Declared) → q ≡ r → declares s (moved_in d) q f ≡ run_moved (declares s d r f)
  declares_so s d q r f e = ap (λ (z : Result _ EvalFault). declares s (moved_in d) z f) e ∙ declares_same s d r f

  -- ---- what a host does

  in_same : (d : Declaring) → GlobsAlike d.place → (s : State) (function : HostFunction) (passed : Passed) → call_in (moved_in d) s function passed ≡ run_moved (call_in d s function passed)
  unfolding call_in
  in_same d alike s b.Glob passed =
      ap (λ (r : Result (List (List ℕ)) EvalFault). on_machine (given r >>= new_strings) (s, declaring (moved_in d))) (globbed_same d.place alike s.store passed)
      ∙ beside_same (declaring d) ((given (globbed d.place s.store passed) >>= new_strings) s)
  in_same d alike s b.PackageName passed =
      ap (λ (r : Result Datum EvalFault). on_machine (given r) (s, declaring (moved_in d))) (name_same d.place passed) ∙ beside_same (declaring d) (given (package_name d.place passed) s)
  in_same d alike s b.Package passed = beside_same (declaring d) (given (ignored passed) s)
  in_same d alike s b.Licenses passed = beside_same (declaring d) (given (ignored passed) s)
  in_same d alike s b.ExportsFiles passed = declares_so s d _ _ (λ ls. exported d.package ls s.line) (files_same d.place s.store passed)
  in_same d alike s b.PackageGroup passed = declares_so s d _ _ (declared d.package) (group_same d.place s.store s.line passed)
  in_same d alike s (b.Rule rule) passed = declares_so s d _ _ (declared d.package) (rule_same d.place s.store s.line rule passed)

  in_stays : (d : Declaring) → GlobsAlike d.place → (s : State) (function : HostFunction) (passed : Passed) → StaysAlike (call_in d s function passed)
  unfolding call_in
  in_stays d alike s b.Glob passed = beside_stays (declaring d) alike ((given (globbed d.place s.store passed) >>= new_strings) s)
  in_stays d alike s b.PackageName passed = beside_stays (declaring d) alike (given (package_name d.place passed) s)
  in_stays d alike s b.Package passed = beside_stays (declaring d) alike (given (ignored passed) s)
  in_stays d alike s b.Licenses passed = beside_stays (declaring d) alike (given (ignored passed) s)
  in_stays d alike s b.ExportsFiles passed = declares_stays s d alike (files_named d.place s.store passed) (λ ls. exported d.package ls s.line)
  in_stays d alike s b.PackageGroup passed = declares_stays s d alike (group_named d.place s.store s.line passed) (declared d.package)
  in_stays d alike s (b.Rule rule) passed = declares_stays s d alike (rule_target d.place s.store s.line rule passed) (declared d.package)

  by_same : (s : State) (w : HeldPackage) → IsAlike w → (function : HostFunction) (passed : Passed) → call_by s (moved w) function passed ≡ run_moved (call_by s w function passed)
  by_same s (outside own packages) alike function passed = refl
  by_same s (declaring d) alike function passed = in_same d alike s function passed

  by_stays : (s : State) (w : HeldPackage) → IsAlike w → (function : HostFunction) (passed : Passed) → StaysAlike (call_by s w function passed)
  by_stays s (outside own packages) alike function passed = tt
  by_stays s (declaring d) alike function passed = in_stays d alike s function passed

  call_moves : (function : HostFunction) (passed : Passed) → Moves Datum (call_of function passed)
  unfolding call_of
  call_moves function passed = record { same = λ s w alike. by_same s w alike function passed; stays = λ s w alike. by_stays s w alike function passed }

  rule_by_same : (rule : List ℕ) (class : Class) (passed : Passed) (s : State) (w : HeldPackage) → rule_by s (moved w) rule class passed ≡ run_moved (rule_by s w rule class passed)
  rule_by_same rule class passed s (outside own packages) = refl
  rule_by_same rule class passed s (declaring d) = declares_so s d _ _ (declared d.package) (declared_same d.place s.store s.line rule class passed)

  rule_by_stays : (rule : List ℕ) (class : Class) (passed : Passed) (s : State) (w : HeldPackage) → IsAlike w → StaysAlike (rule_by s w rule class passed)
  rule_by_stays rule class passed s (outside own packages) alike = tt
  rule_by_stays rule class passed s (declaring d) alike = declares_stays s d alike (declared_target d.place s.store s.line rule class passed) (declared d.package)

  rule_moves : (rule : List ℕ) (class : Class) (passed : Passed) → Moves Datum (rule_call rule class passed)
  unfolding rule_call
  rule_moves rule class passed = record { same = λ s w alike. rule_by_same rule class passed s w; stays = λ s w alike. rule_by_stays rule class passed s w alike }

  built_in_moves : (x : Predeclared) (args : Passed) → Moves Datum (call_built_in meaning x args)
  unfolding call_built_in
  built_in_moves (p.Host f) args = call_moves f args
  built_in_moves x args = lifted Datum (call_function x args)

  -- ---- what declares rules, and rules

  declare_same : (function : RuleFunction) (args : Passed) (s : State) (w : HeldPackage) → on_machine (declare (default_value (moved w)) (is_building (moved w)) function args) (s, moved w) ≡ run_moved (on_machine (declare (default_value w) (is_building w) function args) (s, w))
  unfolding default_value
  declare_same function args s (outside own packages) = beside_same (outside own packages) (declare (default_value (outside own packages)) false function args s)
  declare_same function args s (declaring d) = beside_same (declaring d) (declare (default_value (declaring d)) true function args s)

  function_moves : (function : RuleFunction) (args : Passed) → Moves Datum (call_rule_function meaning function args)
  unfolding call_rule_function
  function_moves function args = record {
    same = λ s w alike. declare_same function args s w;
    stays = λ s w alike. beside_stays w alike (declare (default_value w) (is_building w) function args s);
  }

  kind_moves : (kind : Option (List ℕ)) (x : Class) (args : Passed) → Moves Datum (call_kind meaning kind x args)
  kind_moves None x args = lifted Datum (action.stop BadValue)
  kind_moves (Some kind) x args = rule_moves kind x args

  abbrev refusal : Action (State × HeldPackage) Datum
  refusal = on_machine (action.stop NotInPackage)

  class_same : (home number : ℕ) (x : Class) (args : Passed) (s : State) (w : HeldPackage) → IsAlike w
      → (if is_building (moved w) then call_kind meaning (kind_of s.store home number) x args else refusal) (s, moved w) ≡ run_moved ((if is_building w then call_kind meaning (kind_of s.store home number) x args else refusal) (s, w))
  class_same home number x args s (outside own packages) alike = refl
  class_same home number x args s (declaring d) alike = (kind_moves (kind_of s.store home number) x args).same s (declaring d) alike

  class_moves : (home number : ℕ) (x : Class) (args : Passed) → Moves Datum (call_class meaning home number x args)
  unfolding call_class
  class_moves home number x args = record {
    same = λ s w alike. class_same home number x args s w alike;
    stays = λ s w alike. chosen_stays Datum (is_building w) (call_kind meaning (kind_of s.store home number) x args) refusal (kind_moves (kind_of s.store home number) x args) (lifted Datum (action.stop NotInPackage)) s w alike;
  }

  cell_moves : (home number : ℕ) (args : Passed) → Moves Datum (call_cell meaning home number args)
  unfolding call_cell
  cell_moves home number args =
      let rule : Action State Class = look (λ s. class_in (content_at s.store home number)) in
      both Class Datum (on_machine rule) (λ x. call_class meaning home number x args) (lifted Class rule) (λ x. class_moves home number x args)

  -- ---- a file

  abbrev Same : Relation (State × HeldPackage)
  Same A a other = Moves A a

  all_move : (names : List Name) → Respects (primitives names meaning) Same
  unfolding primitives
  all_move names = record {
    of_value = λ A x. record { same = λ s w alike. refl; stays = λ s w alike. alike };
    of_stop = λ A kind. lifted A (action.stop kind);
    of_both = λ A B a b f g h k. both A B a f h k;
    of_choice = λ A v a b c d h k. record {
      same = λ s w alike. chosen_same A (truth_of s.store v) a c h k s w alike;
      stays = λ s w alike. chosen_stays A (truth_of s.store v) a c h k s w alike;
    };
    of_step = λ n. lifted (Unit {0}) (machine.step n);
    of_unary = λ o v. lifted Datum (operate.unary o v);
    of_binary = λ o v w. lifted Datum (operate.binary o v w);
    of_compare = λ o v w. lifted Datum (operate.compare o v w);
    of_augment = λ o v w. lifted Datum (in_place.augment o v w);
    of_index = λ v i. lifted Datum (operate.index v i);
    of_set_index = λ v i w. lifted (Unit {0}) (in_place.set_index v i w);
    of_slice = λ v i j k. lifted Datum (operate.slice v i j k);
    of_make = λ c. lifted Datum (cells.new_content c);
    of_add = λ c v. lifted _ (making.add c v);
    of_add_pair = λ c k v. lifted _ (making.add_pair c k v);
    of_put_pair = λ c k v. lifted _ (making.put_pair c k v);
    of_parts = λ count v. lifted (List Datum) (unpacking.parts count v);
    of_begin_walk = λ v. lifted (List Datum) (iteration.begin_walk v);
    of_end_walk = λ v. changed (iteration.end_walk v);
    of_pass = λ q v. lifted Passed (passing.pass q v);
    of_pass_named = λ q name v. lifted Passed (passing.pass_named q name v);
    of_pass_all = λ q v. lifted Passed (passing.pass_all q v);
    of_pass_all_named = λ q v. lifted Passed (passing.pass_all_named q v);
    of_built_in = built_in_moves;
    of_rule_function = function_moves;
    of_cell = cell_moves;
    of_method = λ name v q. lifted Datum (methods.call_method name v q);
    of_enter = λ home place. lifted (Unit {0}) (calls.enter home place);
    of_leave = changed calls.leave;
  }

  lines_move : (names : List Name) → OfLines (primitives names meaning) Same
  unfolding primitives
  lines_move names n = changed (λ s. record s { line = n })

  run_same : (names : List Name) (files : List (Option ResolvedFile)) (number : ℕ) (file : ResolvedFile) (loaded : List FrozenView) (imported : List Datum) (limit : ℕ) (w : HeldPackage) → IsAlike w
      → module_run names meaning files number file loaded imported limit (moved w) ≡ run_moved (module_run names meaning files number file loaded imported limit w)
  unfolding module_run
  run_same names files number file loaded imported limit w alike =
      (module_rule (primitives names meaning) Same (all_move names) (lines_move names) (frozen_units files loaded) number file imported).same (started (first_store number loaded) limit) w alike

  package_same : (w : HeldPackage) → package_in (moved w) ≡ package_in w
  package_same (outside own packages) = refl
  package_same (declaring d) = refl

  after_moved : (file : ResolvedFile) (imported : List Datum) (r : Run (State × HeldPackage) Frame) → module_after file imported (run_moved r) ≡ module_after file imported r
  unfolding module_after
  after_moved file imported (done globals s) = ap (module_by (ended file imported (done globals s))) (package_same s.1)
  after_moved file imported (stopped why) = refl

  -- what a file comes to is the same with these paths
  pub comes_alike : (names : List Name) (files : List (Option ResolvedFile)) (number : ℕ) (file : ResolvedFile) (loaded : List FrozenView) (imported : List Datum) (limit : ℕ) (w : HeldPackage) → IsAlike w
      → module_after file imported (module_run names meaning files number file loaded imported limit (moved w)) ≡ module_after file imported (module_run names meaning files number file loaded imported limit w)
  comes_alike names files number file loaded imported limit w alike =
      ap (module_after file imported) (run_same names files number file loaded imported limit w alike) ∙ after_moved file imported (module_run names meaning files number file loaded imported limit w)

-- `glob` gives the same of paths of which the package has the same names
pub globs_alike : (paths : List (List ℕ)) (p : PlaceView) → names_in p.packages p.own paths ≡ names_in p.packages p.own p.paths → GlobsAlike paths p
unfolding glob
globs_alike paths p names include exclude = ap (λ (ns : List (List ℕ)). filter (is_wanted include exclude) ns) names
