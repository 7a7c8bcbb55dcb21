-- The recursion along loads gives the same outcomes by names and by slots.
use Rattle.std.proofs.Common.{◌≡◌, ◌∙◌, ℕ, ◌+◌, List, [], ◌∷◌, map, Option, Some, None, Result, Ok, Err, slice_get, refl, sym, ap, subst, bytes_eq}
use Rattle.std.specs.Prelude.{if◌then◌else◌}
use Rattle.bq_base.specs.Fault.{kind_of_load}
use Rattle.bq_base.specs.declared.fault.Fault.{Fault}
use Rattle.bq_base.specs.declared.fault.FaultKind.{FaultKind}
use Rattle.bq_base.specs.declared.fault.LoadFault.{LoadFault}
use Rattle.bq_base.specs.declared.fault.LoadFault.TheVariants as of_load
use Rattle.bq_label.specs.declared.workspace.File.{File}
use Rattle.bq_label.specs.Label.{LabelParts, full_form}
use Rattle.bq_label.specs.Packages.{packages_of}
use Rattle.bq_resolve_scope.specs.declared.loads.LoadStmt.{LoadStmt}
use Rattle.bq_resolve_laws.specs.Loads.{written_load}
use Rattle.bq_resolve_laws.specs.Resolution.{Maybe}
use Rattle.bq_resolve_laws.proofs.Loads.{loads_kept}
use Rattle.bq_package_schema.specs.Schema.{Rules}
use Rattle.bq_board.specs.Graph.{Loads, Fits}
use Rattle.bq_eval_by_name.proofs.Units.{in_place}
use Rattle.bq_load_front.specs.Inputs.{InputParts}
use Rattle.bq_load_front.specs.Agreement.{IsFrontOf}
use Rattle.bq_load_front.specs.Parsed.{ParsedFront, Fronts}
use Rattle.bq_load_front.specs.Reading.{parsed_of}
use Rattle.bq_load_front.proofs.Fronts.{are_fronts, fronts_are}
use Rattle.bq_load_front.specs.declared.front.Front.{Front}
use Rattle.bq_load_discover.specs.LoadGraph.{GraphParts, IsLoadGraph, IsReadGraph, inputs_of}
use Rattle.bq_load_discover.specs.Module.{module_of}
use Rattle.bq_load_discover.specs.Modules.{AreTooMany}
use Rattle.bq_load_discover.specs.declared.modules.Module.{Module}
use Rattle.bq_load_order.specs.Outcome.{outcome}
use Rattle.bq_load_order.specs.declared.outcome.Outcome.{Outcome}
use Rattle.bq_load_order.specs.declared.outcome.Outcome.TheVariants as o
use Rattle.bq_load.specs.Evaluation as evaluation
use Rattle.bq_load.specs.Loaded.{IsGathered, LoadsWithin}
use Rattle.bq_base.specs.declared.limits.Limits.{Limits}
use Rattle.bq_load.specs.declared.loaded.Loaded.{Loaded}
use Rattle.bq_load.specs.Results as slots
use Rattle.bq_load.specs.Loading.{LoadingParts, loading_in}
use Rattle.bq_load.specs.Views.{ModuleView, FailedView, not_evaluated}
use Rattle.bq_load_by_name.specs.Agreement.{IsReadAs, AreReadAs, with_modules, OutcomesAgree, WorkspacesAgree}
use Rattle.bq_load_by_name.specs.Evaluation.{means}
use Rattle.bq_load_by_name.specs.Parsed.{ParsedModule, ParsedParts, parsed_module, parsed_in}
use Rattle.bq_load_by_name.specs.Results.{line_of_load, load_fault, result_of, outcomes_from, outcomes, HaveTooMany}
use Rattle.bq_load_by_name.proofs.Cases.{line_by, load_fault_by}
use Rattle.bq_load_by_name.proofs.Modules.{means_same}
use Rattle.bq_load_by_name.proofs.Read.{modules_are_read}

-- ---- the faults of loads

line_same : (l : LabelParts) (ss : List LoadStmt) (ls : List LabelParts) → line_of_load l (map written_load ss) ls ≡ slots.line_of_load l ss ls
unfolding line_of_load slots.line_of_load
line_same l [] ls = refl
line_same l (s ∷ ss) [] = refl
line_same l (s ∷ ss) (k ∷ ks) = ap (λ n. if bytes_eq (full_form l) (full_form k) then s.line else n) (line_same l ss ks)

line_is : (l : LabelParts) (x : Result ParsedFront (Fault FaultKind)) (r : Result Front (Fault FaultKind)) → IsFrontOf x r → line_by l x ≡ slots.line_by l r
line_is l (Err why) (Err told) h = refl
line_is l (Err why) (Ok front) h = absurd h
line_is l (Ok parsed) (Err told) h = absurd h
line_is l (Ok parsed) (Ok front) h =
    ap (λ ns. line_of_load l ns parsed.loads) (sym (loads_kept parsed.file front.file h.0)) ∙ line_same l front.file.loads parsed.loads
    ∙ ap (slots.line_of_load l front.file.loads) (sym h.1)

abbrev fault_on : LoadFault → List ℕ → ℕ → Fault FaultKind
fault_on kind detail line = record { kind = kind_of_load kind; line = line; detail = detail }

fault_is : (kind : LoadFault) (x : Result ParsedFront (Fault FaultKind)) (r : Result Front (Fault FaultKind)) → IsFrontOf x r → (s : Option ParsedModule) (t : Option Module) → Maybe IsReadAs s t
    → load_fault_by kind x s ≡ slots.load_fault_by kind r t
fault_is kind x r is None None h = refl
fault_is kind x r is None (Some t) h = absurd h
fault_is kind x r is (Some s) None h = absurd h
fault_is kind x r is (Some s) (Some t) h =
    ap (λ (l : LabelParts). fault_on kind (full_form l) (line_by l x)) (sym h.0) ∙ ap (fault_on kind (full_form t.label)) (line_is t.label x r is)

module _ (x : LoadingParts) (all : List ParsedModule) (are : AreReadAs all x.modules) where
  abbrev named : ParsedParts
  named = with_modules x all

  module _ (s : Result ParsedFront (Fault FaultKind)) (r : Result Front (Fault FaultKind)) (is : IsFrontOf s r) where
    fault_same : (kind : LoadFault) (k : ℕ) → load_fault named s kind k ≡ slots.load_fault x r kind k
    unfolding load_fault slots.load_fault
    fault_same kind k = fault_is kind s r is (slice_get all k) (slice_get x.modules k) (in_place IsReadAs all x.modules k are)

    result_same : (one : Outcome ModuleView FailedView) → result_of named s one ≡ slots.result_of x r one
    result_same (o.Loaded v) = refl
    result_same (o.Faulty e) = refl
    result_same (o.Cyclic k) = ap (λ why. Err (not_evaluated why)) (fault_same of_load.CycleReached k)
    result_same (o.TooDeep k) = ap (λ why. Err (not_evaluated why)) (fault_same of_load.LoadDepth k)
    result_same (o.LoadFailed k) = ap (λ why. Err (not_evaluated why)) (fault_same of_load.LoadFailed k)

  -- the recursion along loads is a word over what modules evaluate to
  outcome_same : (p : Loads) (m : ℕ) → outcome (means named) p m ≡ outcome (evaluation.means x) p m
  outcome_same p m = λ i. outcome (λ l vs. means_same x all are l vs i) p m

  from_same : (p : Loads) (m : ℕ) (ss : List ParsedModule) (ts : List Module) → AreReadAs ss ts → outcomes_from named p m ss ≡ slots.outcomes_from x p m ts
  from_same p m [] [] h = refl
  from_same p m [] (t ∷ ts) h = absurd h
  from_same p m (s ∷ ss) [] h = absurd h
  from_same p m (s ∷ ss) (t ∷ ts) h =
      let label : s.label ≡ t.label = sym h.0.0 in
      let one = ap (result_of named s.front) (outcome_same p m) ∙ result_same s.front t.front h.0.1 (outcome (evaluation.means x) p m) in
      let rest = from_same p (m + 1) ss ts h.1 in
      λ i. record { label = label i; result = one i } ∷ rest i

  pub outcomes_same : (p : Loads) → outcomes named p ≡ slots.outcomes x p
  unfolding outcomes slots.outcomes
  outcomes_same p = from_same p 0 all x.modules are

-- ---- a workspace

pub outcomes_agree : OutcomesAgree
outcomes_agree files rules limit g is =
    outcomes_same (loading_in files rules limit g) (map (parsed_module (parsed_of (inputs_of files rules))) g.labels) (modules_are_read files rules g is) g.edges

-- the load graph, with what the code gives for each file
abbrev pub read_graph : InputParts → List LabelParts → Loads → GraphParts
read_graph inputs labels edges = record { labels = labels; modules = map (module_of inputs) labels; edges = edges; packages = inputs.packages }

pub is_read_graph : (inputs : InputParts) (labels : List LabelParts) (edges : Loads) → IsLoadGraph inputs.packages (parsed_of inputs) labels edges → IsReadGraph inputs (read_graph inputs labels edges)
is_read_graph inputs labels edges is = record { graph = is; read = refl; packages = refl }

module _ (files : List File) (rules : Rules) (limits : Limits) (l : Loaded) where
  -- the modules of these labels give this, where the files of labels are these
  abbrev Gives : Fronts → List LabelParts → Loads → Type 0
  Gives fronts labels edges = IsLoadGraph (packages_of files) fronts labels edges × IsGathered (packages_of files) (outcomes (parsed_in files rules fronts limits.steps labels) edges) l

  by_slots : (labels : List LabelParts) (edges : Loads) → Gives (parsed_of (inputs_of files rules)) labels edges → Fits limits edges → LoadsWithin files rules limits (Ok l)
  by_slots labels edges h fits =
      let g : GraphParts = read_graph (inputs_of files rules) labels edges in
      let is : IsReadGraph (inputs_of files rules) g = is_read_graph (inputs_of files rules) labels edges h.0 in
      (g, is, subst (λ os. IsGathered (packages_of files) os l) (outcomes_agree files rules limits.steps g is) h.1, fits)

as_read : (limits : Limits) (files : List File) (rules : Rules) → HaveTooMany limits files rules → AreTooMany limits (packages_of files) (parsed_of (inputs_of files rules))
as_read limits files rules h = subst (λ (z : Fronts). AreTooMany limits (packages_of files) z) (fronts_are (inputs_of files rules) h.0 h.1) h.2

pub workspaces_agree : WorkspacesAgree
workspaces_agree files rules limits (Ok l) = (
  λ h.
      let read : h.0 ≡ parsed_of (inputs_of files rules) = fronts_are (inputs_of files rules) h.0 h.1 in
      by_slots files rules limits l h.2 h.3 (subst (λ (z : Fronts). Gives files rules limits l z h.2 h.3) read (h.4, h.5)) h.6,
  λ h. (
    parsed_of (inputs_of files rules),
    are_fronts (inputs_of files rules),
    h.0.labels,
    h.0.edges,
    h.1.graph,
    subst (λ os. IsGathered (packages_of files) os l) (sym (outcomes_agree files rules limits.steps h.0 h.1)) h.2,
    h.3,
  ),
)
workspaces_agree files rules limits (Err why) = (
  λ h. (λ e. as_read limits files rules (h.0 e), h.1),
  λ h. (λ e. (parsed_of (inputs_of files rules), are_fronts (inputs_of files rules), h.0 e), h.1),
)
