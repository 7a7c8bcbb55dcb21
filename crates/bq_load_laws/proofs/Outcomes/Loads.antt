-- A module of a load graph that comes to nothing by its loads is told at the first load of the module that it names.
use Rattle.std.proofs.Common.{◌≡◌, ◌∙◌, ℕ, inl, inr, Bool, true, false, cond, List, [], ◌∷◌, length, map, Option, Some, None, Result, Ok, Err, slice_get, option_map, Contains, refl, sym, ap, subst, arith, true≢false}
use Rattle.std.proofs.lemmas.List.{length-map}
use Rattle.std.proofs.lemmas.Option.{get_or_from_slice_get}
use Rattle.bq_base.specs.declared.fault.Fault.{Fault}
use Rattle.bq_base.specs.declared.fault.FaultKind.{FaultKind}
use Rattle.bq_base.specs.declared.fault.LoadFault.{LoadFault}
use Rattle.bq_base.specs.declared.fault.LoadFault.TheVariants as f
use Rattle.bq_base.specs.Fault.{kind_of_load, or_fault_as}
use Rattle.bq_label.specs.declared.workspace.File.{File}
use Rattle.bq_label.specs.Label.{LabelParts, package_of}
use Rattle.bq_label.specs.Packages.{label_file}
use Rattle.bq_label_set.proofs.Added.{none_in, the_labels_added}
use Rattle.bq_resolve_scope.specs.declared.file.ResolvedFile.{ResolvedFile}
use Rattle.bq_board.specs.Counts.{Has}
use Rattle.bq_board.specs.Cycles.{is_cyclic, starts_path}
use Rattle.bq_board.specs.Depth.{max_load_depth, is_too_deep}
use Rattle.bq_board.specs.Graph.{Loads, row, Known}
use Rattle.bq_board.proofs.Going.{loads_a_cyclic}
use Rattle.bq_board.proofs.Lemmas.{bool_cases, head_has, tail_has, cons_has, any_some, deep_both}
use Rattle.bq_load_order.specs.Outcome.{first, with_load_value, load_values, own, evaluated, by_loads, outcome}
use Rattle.bq_load_order.specs.declared.outcome.Outcome.{Outcome}
use Rattle.bq_load_order.specs.declared.outcome.Outcome.TheVariants as o
use Rattle.bq_load_order.proofs.Solution.{cond_true, cond_false, outcome_is}
use Rattle.bq_load_front.specs.Resolved as text
use Rattle.bq_load_front.specs.Resolved.{◌>>=◌}
use Rattle.bq_load_front.specs.Front.{load_of, front_at, front_of, loads_by}
use Rattle.bq_load_front.specs.Parsed.{labels_of, kind_of}
use Rattle.bq_load_front.specs.Reading.{parsed_of, loads_of}
use Rattle.bq_load_front.specs.Inputs.{InputParts, universe_of}
use Rattle.bq_load_front.specs.FileLaws.{named, NameFiles}
use Rattle.bq_load_front.specs.declared.front.Front.{Front}
use Rattle.bq_load_front.proofs.ByName.{loads_agree}
use Rattle.bq_load_front.proofs.Loads.{are_read}
use Rattle.bq_package_schema.specs.Schema.{Rules}
use Rattle.bq_load_discover.specs.LoadGraph.{GraphParts, IsReadGraph, inputs_of}
use Rattle.bq_load_discover.specs.Module.{module_of}
use Rattle.bq_load_discover.specs.Modules.{edges_from}
use Rattle.bq_load_discover.specs.declared.modules.Module.{Module}
use Rattle.bq_load.specs.Evaluation.{means}
use Rattle.bq_load.specs.Loading.{LoadingParts, loading_in}
use Rattle.bq_load.specs.Views.{ModuleView, FailedView}
use Rattle.bq_load_laws.specs.Outcomes.FirstLoad.{LoadsFirst, IsAtItsLoad, NamesItsLoad, ModulesNameTheirLoads}
use Rattle.bq_load_laws.proofs.Calls.Files.{labelled, row_of}
use Rattle.bq_load_laws.proofs.Graphs.Nothing.{loads_nothing}
use Rattle.bq_load_laws.proofs.Outcomes.FirstLoad.{has_first, names_the_first}
use Rattle.bq_load_laws.proofs.Outcomes.Read.{module_by_label, module_at}

-- ---- the module that an outcome names is loaded

-- the first that passes is there, where one passes
first_has : (test : ℕ → Bool) (xs : List ℕ) (k : ℕ) → Has xs k → test k ≡ true → Has xs (first test xs)
first_has test [] k h e = absurd (omega (arith, h))
first_has test (x ∷ xs) k h e = elim (bool_cases (test x)) [
  | inl here ↦ subst (Has (x ∷ xs)) (sym (cond_true (test x) x (first test xs) here)) (head_has x xs)
  | inr not_here ↦ elim (cons_has x xs k h) [
    | inl same ↦ absurd (true≢false (sym e ∙ ap test (sym same) ∙ not_here))
    | inr later ↦ subst (Has (x ∷ xs)) (sym (cond_false (test x) x (first test xs) not_here)) (tail_has x xs (first test xs) (first_has test xs k later e))
  ]
]

module _ {V F : Type 0} where
  with_value_has : (x l : ℕ) (xs : List ℕ) (one : Outcome V F) (r : Result (List V) ℕ) → ((k : ℕ) → r ≡ Err k → Has xs k) → with_load_value one x r ≡ Err l → Has (x ∷ xs) l
  with_value_has x l xs (o.Loaded v) (Ok vs) rest e = absurd (cc)
  with_value_has x l xs (o.Loaded v) (Err k) rest e = tail_has x xs l (rest l e)
  with_value_has x l xs (o.Faulty why) r rest e = let same : x ≡ l = cc in subst (Has (x ∷ xs)) same (head_has x xs)
  with_value_has x l xs (o.Cyclic k) r rest e = let same : x ≡ l = cc in subst (Has (x ∷ xs)) same (head_has x xs)
  with_value_has x l xs (o.TooDeep k) r rest e = let same : x ≡ l = cc in subst (Has (x ∷ xs)) same (head_has x xs)
  with_value_has x l xs (o.LoadFailed k) r rest e = let same : x ≡ l = cc in subst (Has (x ∷ xs)) same (head_has x xs)

  pub values_have : (at : ℕ → Outcome V F) (xs : List ℕ) (l : ℕ) → load_values at xs ≡ Err l → Has xs l
  values_have at [] l e = absurd (cc)
  values_have at (x ∷ xs) l e = with_value_has x l xs (at x) (load_values at xs) (values_have at xs) e

  module _ (means : ℕ → List V → Result V F) (p : Loads) (known : Known p) (m : ℕ) where
    abbrev pub NamesOne : Outcome V F → Type 0
    NamesOne (o.Loaded v) = Unit {0}
    NamesOne (o.Faulty e) = Unit {0}
    NamesOne (o.Cyclic k) = Has (row p m) k
    NamesOne (o.TooDeep k) = Has (row p m) k
    NamesOne (o.LoadFailed k) = Has (row p m) k

    by_result : (r : Result V F) → NamesOne (own r)
    by_result (Ok v) = tt
    by_result (Err why) = tt

    by_values : (r : Result (List V) ℕ) → ((l : ℕ) → r ≡ Err l → Has (row p m) l) → NamesOne (evaluated (means m) r)
    by_values (Ok vs) h = by_result (means m vs)
    by_values (Err l) h = h l refl

    by_cases : (cyclic deep : Bool) (c d : ℕ) (r : Result (List V) ℕ) → (cyclic ≡ true → Has (row p m) c) → (deep ≡ true → Has (row p m) d) → ((l : ℕ) → r ≡ Err l → Has (row p m) l)
        → NamesOne (cond cyclic (o.Cyclic c) (cond deep (o.TooDeep d) (evaluated (means m) r)))
    by_cases true deep c d r on_cycle too_far failed = on_cycle refl
    by_cases false true c d r on_cycle too_far failed = too_far refl
    by_cases false false c d r on_cycle too_far failed = by_values r failed

    pub on_cycle : is_cyclic p m ≡ true → Has (row p m) (first (is_cyclic p) (row p m))
    on_cycle e = let one = (loads_a_cyclic p known m).0 e in first_has (is_cyclic p) (row p m) one.0 one.1 one.2

    pub too_far : is_too_deep p m ≡ true → Has (row p m) (first (starts_path p max_load_depth) (row p m))
    unfolding starts_path
    too_far e = let one = any_some (starts_path p max_load_depth) (row p m) (deep_both p m e).1 in first_has (starts_path p max_load_depth) (row p m) one.0 one.1 one.2

    pub names_one : NamesOne (outcome means p m)
    unfolding by_loads
    names_one =
        subst NamesOne (sym (outcome_is means p m))
        (by_cases (is_cyclic p m) (is_too_deep p m) (first (is_cyclic p) (row p m)) (first (starts_path p max_load_depth) (row p m)) (load_values (outcome means p) (row p m)) on_cycle too_far
        (values_have (outcome means p) (row p m)))

-- ---- a file has a label for each of its loads

module _ (inputs : InputParts) (l : LabelParts) (front : Front) where
  abbrev pub Wide : Front → Type 0
  Wide x = length x.file.loads ≡ length x.loads

  abbrev made : ResolvedFile → List LabelParts → Front
  made file ls = record { file = file; loads = ls }

  abbrev ok : Front → Result Front (Fault FaultKind)
  ok x = Ok x

  same_front : (x y : Front) → ok x ≡ ok y → x ≡ y
  same_front x y e = cc

  wide_labels : (file : ResolvedFile) (r : Result (List LabelParts) (Fault LoadFault)) → labels_of (load_of inputs (package_of l)) [] file.loads ≡ r → (or_fault_as kind_of_load r >>= λ ls. ok (made file ls)) ≡ ok front → Wide front
  wide_labels file (Ok ls) is e =
      let names : NameFiles (load_of inputs (package_of l)) file.loads ls = ((are_read (load_of inputs (package_of l)) file.loads).0 ls).0 is in
      subst Wide (same_front (made file ls) front e) (sym (length-map file.loads (load_of inputs (package_of l))) ∙ ap length names ∙ length-map ls named)
  wide_labels file (Err why) is e = absurd (cc)

  wide_text : (r : Result ResolvedFile (Fault FaultKind)) → (r >>= λ file. or_fault_as kind_of_load (labels_of (load_of inputs (package_of l)) [] file.loads) >>= λ ls. ok (made file ls)) ≡ ok front → Wide front
  wide_text (Ok file) e = wide_labels file (labels_of (load_of inputs (package_of l)) [] file.loads) refl e
  wide_text (Err why) e = absurd (cc)

  wide_file : (o : Option File) → front_at inputs l o ≡ ok front → Wide front
  wide_file None e = absurd (cc)
  wide_file (Some x) e = wide_text (text.resolved_file (universe_of inputs (kind_of l)) x.content) e

  pub wide : front_of inputs l ≡ ok front → Wide front
  unfolding front_of
  wide e = wide_file (label_file inputs.files l) e

-- ---- a module of a load graph

module _ (files : List File) (rules : Rules) (limit : ℕ) (g : GraphParts) (is : IsReadGraph (inputs_of files rules) g) where
  abbrev inputs : InputParts
  inputs = inputs_of files rules

  abbrev x : LoadingParts
  x = loading_in files rules limit g

  -- its fault for a load is at the first load of that module in its file
  pub at_load : (m : ℕ) (l : LabelParts) (front : Front) → slice_get g.labels m ≡ Some l → front_of inputs l ≡ Ok front → (kind : LoadFault) (k : ℕ) → Has (row g.edges m) k → IsAtItsLoad x k (front_of inputs l) kind
  at_load m l front at e kind k h =
      let r = labelled g.labels (row g.edges m) (edges_from (parsed_of inputs) l) (row_of inputs g is m l at) k h in
      let loaded = module_of inputs r.label in
      let there : Contains (loads_of inputs l) r.label = elim ((the_labels_added [] (loads_of inputs l) r.label).0 r.among) [ inl nothing ↦ absurd (none_in r.label nothing) | inr one ↦ one ] in
      let among : Contains front.loads r.label = subst (λ (z : List LabelParts). Contains z r.label) (sym (loads_agree inputs l) ∙ ap loads_by e) there in
      let first = has_first r.label front.file.loads front.loads (wide inputs l front e) among in
      let is_first : LoadsFirst x k (front_of inputs l) loaded first.load = record { own = front; read = e; known = module_at inputs x g.labels is.read k r.label r.at; first = first.is } in
      record { loaded = loaded; load = first.load; first = is_first; fault = names_the_first x k (front_of inputs l) loaded kind first.load is_first }

  module _ (m : ℕ) (l : LabelParts) (at : slice_get g.labels m ≡ Some l) where
    by_outcome : (one : Outcome ModuleView FailedView) → NamesOne (means x) g.edges is.graph.valid.1 m one → ((kind : LoadFault) (k : ℕ) → Has (row g.edges m) k → IsAtItsLoad x k (front_of inputs l) kind)
        → NamesItsLoad x (front_of inputs l) one
    by_outcome (o.Loaded v) h told = tt
    by_outcome (o.Faulty e) h told = tt
    by_outcome (o.Cyclic k) h told = told f.CycleReached k h
    by_outcome (o.TooDeep k) h told = told f.LoadDepth k h
    by_outcome (o.LoadFailed k) h told = told f.LoadFailed k h

    -- a file that does not resolve loads nothing
    by_front : (r : Result Front (Fault FaultKind)) → front_of inputs l ≡ r → (kind : LoadFault) (k : ℕ) → Has (row g.edges m) k → IsAtItsLoad x k (front_of inputs l) kind
    by_front (Ok front) e kind k h = at_load m l front at e kind k h
    by_front (Err why) e kind k h =
        let none : row g.edges m ≡ [] = get_or_from_slice_get g.edges m [] [] (loads_nothing inputs g m l why is at e) in
        let never : Has [] k = subst (λ (z : List ℕ). Has z k) none h in
        absurd (omega (arith, never))

    told_at_its_load : NamesItsLoad x (front_of inputs l) (outcome (means x) g.edges m)
    told_at_its_load = by_outcome (outcome (means x) g.edges m) (names_one (means x) g.edges is.graph.valid.1 m) (by_front (front_of inputs l) refl)

  abbrev some_module : Module → Option Module
  some_module s = Some s

  same_module : (s t : Module) → some_module s ≡ some_module t → s ≡ t
  same_module s t e = cc

  by_label : (m : ℕ) (s : Module) → slice_get x.modules m ≡ some_module s → (label : Option LabelParts) → slice_get g.labels m ≡ label → NamesItsLoad x s.front (outcome (means x) g.edges m)
  by_label m s from None e =
      let nothing : slice_get x.modules m ≡ option_map (module_of inputs) None = module_by_label inputs x g.labels is.read m ∙ ap (option_map (module_of inputs)) e in
      absurd (cc)
  by_label m s from (Some l) e =
      let one : some_module (module_of inputs l) ≡ some_module s = sym (module_at inputs x g.labels is.read m l e) ∙ from in
      subst (λ (z : Module). NamesItsLoad x z.front (outcome (means x) g.edges m)) (same_module (module_of inputs l) s one) (told_at_its_load m l e)

pub modules_name_their_loads : ModulesNameTheirLoads
modules_name_their_loads files rules limit g is m s from = by_label files rules limit g is m s from (slice_get g.labels m) refl
