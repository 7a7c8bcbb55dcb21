-- The outcome of each module is a value, whose package its own file declares, or a fault of one of its parts.
use Rattle.std.proofs.Common.{◌≡◌, ◌∙◌, ℕ, suc, ◌+◌, ◌++◌, ◌&&◌, not, length, Bool, true, false, cond, List, [], ◌∷◌, map, Option, Some, None, Result, Ok, Err, slice_get, is_some, Contains, refl, sym, ap, subst, arith, IfErr, IfOk}
use Rattle.std.specs.Prelude.{option_and_then, if◌then◌else◌}
use Rattle.std.specs.List.{AllByRecursion, list_any}
use Rattle.std.proofs.lemmas.Option.{get_or_from_slice_get}
use Rattle.bq_base.specs.declared.fault.Fault.{Fault}
use Rattle.bq_base.specs.declared.fault.FaultKind.{FaultKind}
use Rattle.bq_base.specs.declared.fault.LoadFault.{LoadFault}
use Rattle.bq_base.specs.declared.fault.LoadFault.TheVariants as f
use Rattle.bq_board.specs.Cycles.{is_cyclic, starts_path}
use Rattle.bq_board.specs.Depth.{max_load_depth, is_too_deep}
use Rattle.bq_board.specs.Counts.{Has}
use Rattle.bq_board.specs.Graph.{Loads, row, Known}
use Rattle.bq_eval.specs.Module.{Ended, evaluated as ran, failed, ended, kept_after, module_run}
use Rattle.bq_label.specs.declared.workspace.File.{File}
use Rattle.bq_label.specs.Label.{LabelParts}
use Rattle.bq_label.specs.Workspace.{IsWorkspace}
use Rattle.bq_load.specs.Evaluation.{kept_first, evaluation, module_by, module_after, loaded_parts, by_imports, file_means, by_front, by_module, means}
use Rattle.bq_load.specs.Imports.{is_private, global_by, or_no_symbol, exported, at_symbol, clause_values, module_named, imports, LoadedParts}
use Rattle.bq_load.specs.Results.{load_fault, result_of, outcomes_from, outcomes}
use Rattle.bq_load.specs.ResolvedFiles.{resolved_files}
use Rattle.bq_load.specs.Loading.{LoadingParts, loading_in}
use Rattle.bq_load.specs.Views.{ModuleView, FailedView, OutcomeView}
use Rattle.bq_load_discover.specs.LoadGraph.{GraphParts, IsReadGraph, inputs_of}
use Rattle.bq_load_discover.specs.Module.{module_of}
use Rattle.bq_load_front.specs.Resolved.{◌>>=◌}
use Rattle.bq_load_front.specs.Front.{front_of}
use Rattle.bq_load_front.specs.Parsed.{kind_of}
use Rattle.bq_load_front.specs.Reading.{parsed_of}
use Rattle.bq_load_front.proofs.Fronts.{are_fronts}
use Rattle.bq_load_front.specs.Inputs.{InputParts}
use Rattle.bq_load_front.specs.declared.front.Front.{Front}
use Rattle.bq_load_order.specs.Outcome.{first, load_values, own, evaluated, by_loads, outcome}
use Rattle.bq_load_order.specs.declared.outcome.Outcome.{Outcome}
use Rattle.bq_load_order.specs.declared.outcome.Outcome.TheVariants as o
use Rattle.bq_label.specs.Packages.{label_file}
use Rattle.bq_label.proofs.Orders.{at_head, in_tail}
use Rattle.bq_load_discover.proofs.Files.{modules_have_files}
use Rattle.bq_load_front.proofs.Tests.{there_is_file}
use Rattle.bq_load_laws.proofs.Graphs.Nothing.{loads_nothing}
use Rattle.bq_load_order.proofs.Solution.{outcome_is, evaluated_is}
use Rattle.bq_package_schema.specs.Schema.{Rules}
use Rattle.bq_parse_grammar.specs.declared.tree.FileKind.{FileKind}
use Rattle.bq_parse_grammar.specs.declared.tree.FileKind.TheVariants as kinds
use Rattle.bq_eval_laws.specs.Evaluations.Files.{FailsAtAStatement}
use Rattle.bq_eval_laws.proofs.Evaluations.Lines.{files_fail_at}
use Rattle.bq_package.specs.Calls.{meaning, package_in}
use Rattle.bq_eval_laws.proofs.BuildFiles.Calls.{calls_own}
use Rattle.bq_package_target.specs.Package.{PackageTargets}
use Rattle.bq_resolve_scope.specs.Names.{Name}
use Rattle.bq_resolve_scope.specs.declared.loads.LoadStmt.{LoadStmt}
use Rattle.bq_resolve_scope.specs.declared.loads.LoadedSymbol.{LoadedSymbol}
use Rattle.bq_resolve_scope.specs.declared.file.ResolvedFile.{ResolvedFile}
use Rattle.bq_value.specs.Datum.{Datum}
use Rattle.bq_load_laws.specs.Faults.Parts.{IsAtLoad, FailsIn, FailsInItsPart, OutcomesFailInTheirParts, LoadedModulesFailInTheirParts}
use Rattle.bq_load_laws.specs.Outcomes.FirstLoad.{IsAtItsLoad, fault_at_load}
use Rattle.bq_load_laws.specs.Packages.Declared.{DeclaresAllIn, DeclaresItsTargets, OutcomesDeclareTheirTargets}
use Rattle.bq_load_laws.specs.Packages.Packages.{IsOwnOf}
use Rattle.bq_load_laws.proofs.Faults.Texts.{among_all, IsFront, fronts_fail}
use Rattle.bq_load_laws.proofs.Outcomes.Loads.{on_cycle, too_far, values_have, at_load}
use Rattle.bq_load_laws.proofs.Outcomes.Read.{module_at}
use Rattle.bq_load_laws.proofs.Packages.Made.{Declares, IsMade, file_made}

-- ---- symbols

-- a result that fails, if it does, at the line of one of these loads
abbrev ByLoads : {A : Type 0} → List LoadStmt → Result A (Fault LoadFault) → Type 0
ByLoads all (Ok x) = Unit {0}
ByLoads all (Err why) = IsAtLoad all why

then_only : {A B : Type 0} (all : List LoadStmt) (r : Result A (Fault LoadFault)) (go : A → Result B (Fault LoadFault)) → ByLoads all r → ((x : A) → ByLoads all (go x)) → ByLoads all (r >>= go)
then_only all (Ok x) go h next = next x
then_only all (Err why) go h next = h

module _ (all : List LoadStmt) (load : LoadStmt) (among : Contains all load) where
  at_it : (why : Fault LoadFault) → why.line ≡ load.line → IsAtLoad all why
  at_it why e = record { load = load; among = among; line = e }

  of_global : (name : Name) (v : Option Datum) → ByLoads all (at_symbol load.line name (or_no_symbol v))
  of_global name None = at_it _ refl
  of_global name (Some v) = tt

  of_symbol : (resolved : List (Option ResolvedFile)) (m : Option ModuleView) (name : Name) → ByLoads all (at_symbol load.line name (exported resolved m name))
  unfolding exported
  of_symbol resolved m name = by_privacy (is_private name)
    where
      by_privacy : (b : Bool) → ByLoads all (at_symbol load.line name (if b then Err f.PrivateSymbol else or_no_symbol (global_by resolved m name)))
      by_privacy true = at_it _ refl
      by_privacy false = of_global name (global_by resolved m name)

  clauses_fail : (resolved : List (Option ResolvedFile)) (m : Option ModuleView) (done : List Datum) (cs : List LoadedSymbol) → ByLoads all (clause_values resolved m load.line done cs)
  unfolding clause_values
  clauses_fail resolved m done [] = tt
  clauses_fail resolved m done (c ∷ cs) =
      then_only all (at_symbol load.line c.symbol (exported resolved m c.symbol)) (λ v. clause_values resolved m load.line (done ++ v ∷ []) cs) (of_symbol resolved m c.symbol)
      (λ v. clauses_fail resolved m (done ++ v ∷ []) cs)

imports_fail : (all : List LoadStmt) (x : LoadedParts) (done : List Datum) (ss : List LoadStmt) (ls : List LabelParts) → ((s : LoadStmt) → Contains ss s → Contains all s) → ByLoads all (imports x done ss ls)
unfolding imports
imports_fail all x done [] ls inside = tt
imports_fail all x done (s ∷ ss) [] inside = tt
imports_fail all x done (s ∷ ss) (l ∷ ls) inside =
    then_only all (clause_values x.resolved (module_named x l) s.line done s.clauses) (λ vs. imports x vs ss ls) (clauses_fail all s (inside s (at_head s ss)) x.resolved (module_named x l) done s.clauses)
    (λ vs. imports_fail all x vs ss ls (λ r c. inside r (in_tail s ss r c)))

has_package : (p : PackageTargets) → Some p ≡ None → ⊥
has_package p e = cc

abbrev of_front : Front → Result Front (Fault FaultKind)
of_front front = Ok front

same_front : (a b : Front) → of_front a ≡ of_front b → a ≡ b
same_front a b e = cc

and_false : (b : Bool) → (b && false) ≡ false
and_false true = refl
and_false false = refl

-- each fault of the module of this number for a load is at the first such load in its file
abbrev pub LoadsAreTold : InputParts → LoadingParts → Loads → ℕ → LabelParts → Type 0
LoadsAreTold inputs x p m l = (front : Front) → front_of inputs l ≡ Ok front → (kind : LoadFault) (k : ℕ) → Has (row p m) k → IsAtItsLoad x k (front_of inputs l) kind

-- ---- a file of a load graph

module _ (inputs : InputParts) where
  -- a package that the file declares, or a fault of one of its parts
  abbrev ComesTo : LabelParts → Result ModuleView FailedView → Type 0
  ComesTo l (Ok v) = DeclaresAllIn inputs l v.package
  ComesTo l (Err v) = FailsIn inputs l v.fault

  abbrev pub IsComeTo : OutcomeView → Type 0
  IsComeTo o = ComesTo o.label o.result

  -- the files of these labels are there
  abbrev AreThere : List LabelParts → Type 0
  AreThere ls = (l : LabelParts) → Contains ls l → is_some (label_file inputs.files l) ≡ true

module _ (inputs : InputParts) (x : LoadingParts) where
  abbrev Comes : LabelParts → Result ModuleView FailedView → Type 0
  Comes l r = ComesTo inputs l r

  -- ---- evaluation

  module _ (l : LabelParts) (front : Front) (is : IsFront inputs l (Ok front)) (m : ℕ) (modules : List ModuleView) where
    by_end : (e : Ended) (p : Option PackageTargets) → FailsAtAStatement front.file e → IfErr (module_by e p) (λ v. FailsIn inputs l v.fault)
    by_end (ran made prints) p at = tt
    by_end (failed why prints) p at = FailsIn.of_evaluation is.0 front.file why is.1 is.2 at refl

    run_fails : (values : List Datum) → IfErr (module_after front.file values (evaluation x m l front.file modules values)) (λ v. FailsIn inputs l v.fault)
    unfolding module_after evaluation
    run_fails values =
        by_end (ended front.file values (module_run x.names meaning (resolved_files x.modules) m front.file (map (λ v. v.frozen) modules) values x.limit (kept_first x l)))
        (option_and_then package_in (kept_after (module_run x.names meaning (resolved_files x.modules) m front.file (map (λ v. v.frozen) modules) values x.limit (kept_first x l))))
        (files_fail_at x.names meaning calls_own (resolved_files x.modules) m front.file (map (λ v. v.frozen) modules) values (kept_first x l) x.limit)

    by_package : (k : FileKind) (p : Option PackageTargets) → IsOwnOf k l p → Declares front.file.statements p → DeclaresAllIn inputs l p
    by_package k None own h = tt
    by_package kinds.Bzl (Some p) own h = absurd (has_package p own)
    by_package kinds.Build (Some p) own h = (own, record { file = is.0; there = is.1; resolved = front.file; has = is.2; declared = h })

    by_both : (r : Result ModuleView FailedView) → IfErr r (λ v. FailsIn inputs l v.fault) → IfOk r (IsMade (kind_of l) l front.file.statements) → Comes l r
    by_both (Ok v) h made = by_package (kind_of l) v.package made.0 made.1
    by_both (Err v) h made = h

    by_run : (values : List Datum) → Comes l (module_after front.file values (evaluation x m l front.file modules values))
    by_run values = by_both (module_after front.file values (evaluation x m l front.file modules values)) (run_fails values) (file_made x m l front.file modules values)

    by_values : (r : Result (List Datum) (Fault LoadFault)) → ByLoads front.file.loads r → Comes l (by_imports x m l front.file modules r)
    by_values (Err why) h = FailsIn.of_loads is.0 front.file why is.1 is.2 h refl
    by_values (Ok values) h = by_run values

  file_comes : (l : LabelParts) (front : Front) → IsFront inputs l (Ok front) → (m : ℕ) (modules : List ModuleView) → Comes l (file_means x m l front modules)
  unfolding file_means
  file_comes l front is m modules =
      by_values l front is m modules (imports (loaded_parts x front modules) [] front.file.loads front.loads)
      (imports_fail front.file.loads (loaded_parts x front modules) [] front.file.loads front.loads (λ r c. c))

  front_comes : (l : LabelParts) (r : Result Front (Fault FaultKind)) → IsFront inputs l r → (m : ℕ) (modules : List ModuleView) → Comes l (by_front x m l modules r)
  front_comes l (Ok front) is m modules = file_comes l front is m modules
  front_comes l (Err why) is m modules = is

  -- ---- a module in its place

  module _ (p : Loads) (m : ℕ) (l : LabelParts) (at : slice_get x.modules m ≡ Some (module_of inputs l)) (none : (why : Fault FaultKind) → front_of inputs l ≡ Err why → row p m ≡ []) (known : Known p)
      (told : LoadsAreTold inputs x p m l) (is_file : is_some (label_file inputs.files l) ≡ true) where
    abbrev Holds : Outcome ModuleView FailedView → Type 0
    Holds one = Comes l (result_of x (front_of inputs l) one)

    means_comes : (modules : List ModuleView) → Comes l (means x m modules)
    unfolding means
    means_comes modules = subst (λ z. Comes l (by_module x m modules z)) (sym at) (front_comes l (front_of inputs l) (fronts_fail inputs l is_file) m modules)

    by_result : (r : Result ModuleView FailedView) → Comes l r → Holds (own r)
    by_result (Ok v) h = h
    by_result (Err why) h = h

    -- a file that resolves may load modules that are cyclic, too deep or failed
    module _ (front : Front) (read : front_of inputs l ≡ Ok front) (is : IsFront inputs l (Ok front)) where
      -- at the first load of the module that it names
      told_there : (kind : LoadFault) (k : ℕ) (i : IsAtItsLoad x k (front_of inputs l) kind) → IsAtLoad front.file.loads (fault_at_load kind i.load i.loaded)
      told_there kind k i =
          let of_file = i.first in
          let same : of_file.own ≡ front = same_front of_file.own front (sym of_file.read ∙ read) in
          let place = of_file.first in
          let loads_are = ap (λ (z : Front). z.file.loads) (sym same) ∙ place.loads_are in
          record { load = i.load; among = subst (λ (z : List LoadStmt). Contains z i.load) (sym loads_are) (among_all place.before i.load place.after); line = refl }

      of_kind : (kind : LoadFault) (k : ℕ) → Has (row p m) k → FailsIn inputs l (load_fault x (front_of inputs l) kind k)
      of_kind kind k loads_it =
          let i = told front read kind k loads_it in
          subst (FailsIn inputs l) (sym i.fault) (FailsIn.of_loads is.0 front.file (fault_at_load kind i.load i.loaded) is.1 is.2 (told_there kind k i) refl)

      by_loaded_values : (vs : Result (List ModuleView) ℕ) → ((k : ℕ) → vs ≡ Err k → Has (row p m) k) → Holds (evaluated (means x m) vs)
      by_loaded_values (Ok vs) unread = by_result (means x m vs) (means_comes vs)
      by_loaded_values (Err k) unread = of_kind f.LoadFailed k (unread k refl)

      by_cases : (cyclic deep : Bool) (k d : ℕ) (vs : Result (List ModuleView) ℕ) → (cyclic ≡ true → Has (row p m) k) → (deep ≡ true → Has (row p m) d) → ((j : ℕ) → vs ≡ Err j → Has (row p m) j)
          → Holds (cond cyclic (o.Cyclic k) (cond deep (o.TooDeep d) (evaluated (means x m) vs)))
      by_cases true deep k d vs cycle far unread = of_kind f.CycleReached k (cycle refl)
      by_cases false true k d vs cycle far unread = of_kind f.LoadDepth d (far refl)
      by_cases false false k d vs cycle far unread = by_loaded_values vs unread

      with_file : Holds (outcome (means x) p m)
      unfolding by_loads
      with_file =
          subst Holds (sym (outcome_is (means x) p m))
          (by_cases (is_cyclic p m) (is_too_deep p m) (first (is_cyclic p) (row p m)) (first (starts_path p max_load_depth) (row p m)) (load_values (outcome (means x) p) (row p m)) (on_cycle (means x) p known m)
          (too_far (means x) p known m) (values_have (outcome (means x) p) (row p m)))

    -- one that has none loads nothing, so its outcome is its own
    module _ (empty : row p m ≡ []) where
      no_path : (n : ℕ) → starts_path p (suc n) m ≡ false
      unfolding starts_path
      no_path n = ap (list_any (starts_path p n)) empty

      not_deep : is_too_deep p m ≡ false
      unfolding is_too_deep
      not_deep = ap (λ (z : Bool). not (is_cyclic p m) && z) (no_path max_load_depth) ∙ and_false (not (is_cyclic p m))

      without_file : Holds (outcome (means x) p m)
      without_file =
          subst Holds (sym (outcome_is (means x) p m ∙ evaluated_is (means x) p (outcome (means x) p) m (no_path (length p)) not_deep
          ∙ ap (λ (z : List ℕ). evaluated (means x m) (load_values (outcome (means x) p) z)) empty))
          (by_result (means x m []) (means_comes []))

    by_what_is_read : (r : Result Front (Fault FaultKind)) → front_of inputs l ≡ r → IsFront inputs l r → Holds (outcome (means x) p m)
    by_what_is_read (Ok front) e is = with_file front e is
    by_what_is_read (Err why) e is = without_file (none why e)

    module_comes : Holds (outcome (means x) p m)
    module_comes = by_what_is_read (front_of inputs l) refl (fronts_fail inputs l is_file)

-- ---- all modules

module _ (inputs : InputParts) (x : LoadingParts) (labels : List LabelParts) (read : x.modules ≡ map (module_of inputs) labels) (p : Loads)
    (none : (m : ℕ) (l : LabelParts) (why : Fault FaultKind) → slice_get labels m ≡ Some l → front_of inputs l ≡ Err why → row p m ≡ []) (known : Known p)
    (told : (m : ℕ) (l : LabelParts) → slice_get labels m ≡ Some l → LoadsAreTold inputs x p m l) (all_there : AreThere inputs labels) where
  from : (m : ℕ) (ls : List LabelParts) → ((i : ℕ) → slice_get labels (m + i) ≡ slice_get ls i) → AreThere inputs ls → AllByRecursion (IsComeTo inputs) (outcomes_from x p m (map (module_of inputs) ls))
  from m [] same there = tt
  from m (l ∷ ls) same there =
      let zero_more : m + 0 ≡ m = omega arith in
      let at : slice_get labels m ≡ Some l = ap (slice_get labels) (sym zero_more) ∙ same 0 in
      (module_comes inputs x p m l (module_at inputs x labels read m l at) (λ why. none m l why at) known (told m l at) (there l (at_head l ls)), from (m + 1) ls next (λ k c. there k (in_tail l ls k c)))
    where
      next : (i : ℕ) → slice_get labels (m + 1 + i) ≡ slice_get ls i
      next i = let more : m + 1 + i ≡ m + suc i = omega arith in ap (slice_get labels) more ∙ same (suc i)

from_zero : (i : ℕ) → 0 + i ≡ i
from_zero i = omega arith

pub outcomes_come : (files : List File) (rules : Rules) (limit : ℕ) (g : GraphParts) → IsWorkspace files → IsReadGraph (inputs_of files rules) g
    → AllByRecursion (IsComeTo (inputs_of files rules)) (outcomes (loading_in files rules limit g) g.edges)
unfolding outcomes
outcomes_come files rules limit g w is =
    let inputs = inputs_of files rules in
    let x = loading_in files rules limit g in
    let there : AreThere inputs g.labels = λ l c. let h = modules_have_files files rules (parsed_of inputs) l w (are_fronts inputs) (is.graph.modules.only l c) in there_is_file files l h.0 h.1 in
    subst (λ ss. AllByRecursion (IsComeTo inputs) (outcomes_from x g.edges 0 ss)) (sym is.read)
    (from inputs x g.labels is.read g.edges (λ m l why at bad. get_or_from_slice_get g.edges m [] [] (loads_nothing inputs g m l why is at bad)) is.graph.valid.1 (λ m l at front read. at_load files rules limit g is m l front at read) there 0 g.labels (λ i. ap (slice_get g.labels) (from_zero i)) there)

-- ---- so it fails in a part of its file, or its file declares what is in its package

pub weaker : {A : Type 0} (P Q : A → Type 0) → ((x : A) → P x → Q x) → (xs : List A) → AllByRecursion P xs → AllByRecursion Q xs
weaker P Q f [] h = tt
weaker P Q f (x ∷ xs) h = (f x h.0, weaker P Q f xs h.1)

module _ (inputs : InputParts) (l : LabelParts) where
  fault_of : (r : Result ModuleView FailedView) → ComesTo inputs l r → IfErr r (λ v. FailsIn inputs l v.fault)
  fault_of (Ok v) h = tt
  fault_of (Err v) h = h

  package_of : (r : Result ModuleView FailedView) → ComesTo inputs l r → IfOk r (λ v. DeclaresAllIn inputs l v.package)
  package_of (Ok v) h = h
  package_of (Err v) h = tt

pub outcomes_fail : OutcomesFailInTheirParts
outcomes_fail files rules limit g w is =
    let inputs = inputs_of files rules in
    weaker (IsComeTo inputs) (FailsInItsPart inputs) (λ o h. fault_of inputs o.label o.result h) (outcomes (loading_in files rules limit g) g.edges) (outcomes_come files rules limit g w is)

pub outcomes_declare : OutcomesDeclareTheirTargets
outcomes_declare files rules limit g w is =
    let inputs = inputs_of files rules in
    weaker (IsComeTo inputs) (DeclaresItsTargets inputs) (λ o h. package_of inputs o.label o.result h) (outcomes (loading_in files rules limit g) g.edges) (outcomes_come files rules limit g w is)

pub loaded_fail : LoadedModulesFailInTheirParts
loaded_fail files rules limits l w h =
    subst (AllByRecursion (FailsInItsPart (inputs_of files rules))) (sym h.2.modules) (outcomes_fail files rules limits.steps h.0 w h.1)
