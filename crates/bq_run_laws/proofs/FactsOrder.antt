-- The lines of facts are objects: one that says how many follow, then those of targets, then those of modules, then those of faults.
use Rattle.std.proofs.Common.{◌≡◌, ◌⊎◌, ◌∙◌, ◌<◌, ℕ, zero, suc, List, [], ◌∷◌, ◌++◌, Option, Some, None, drop, length, slice_get, codes, append-nil, length-append, refl, sym, ap, inl, inr, arith}
use Rattle.std.specs.List.{All, AllByRecursion, flat_map}
use Rattle.std.proofs.lemmas.Grind.{flat_map-append}
use Rattle.std.proofs.lemmas.List.Elements.{All-head, All-tail}
use Rattle.bq_base_texts.specs.declared.fault_line.FaultLine.{FaultLine}
use Rattle.bq_label.specs.declared.packages.BuildFile.{BuildFile}
use Rattle.bq_label.specs.declared.workspace.File.{File}
use Rattle.bq_label.specs.Label.{LabelParts}
use Rattle.bq_label.specs.Packages.{packages_of}
use Rattle.bq_load_discover.specs.declared.modules.Module.{Module}
use Rattle.bq_load_discover.specs.LoadGraph.{GraphParts as LoadParts}
use Rattle.bq_load_front.specs.Front.{loads_by}
use Rattle.bq_package_target.specs.declared.target.Target.{Target}
use Rattle.bq_resolve_scope.specs.declared.loads.LoadStmt.{LoadStmt}
use Rattle.bq_package_values.specs.JsonValue.{Json, value_text}
use Rattle.bq_facts.specs.declared.header.Counts.{Counts}
use Rattle.bq_facts.specs.declared.header.Origin.{Origin}
use Rattle.bq_facts.specs.Header.{header_line}
use Rattle.bq_facts.specs.Labels.{labels_at}
use Rattle.bq_facts.specs.FaultObject.{fault_code, fault_object}
use Rattle.bq_facts.specs.Objects.{fault_named, fault_value, header_value, labelled, module_named, module_value, target_named, target_value, written}
use Rattle.bq_facts.specs.TargetLine.{file_of}
use Rattle.bq_facts.proofs.Lines as lines
use Rattle.bq_query_target_graph.specs.Graph.{GraphParts}
use Rattle.bq_query_check.specs.declared.checked.CheckedQuery.{CheckedQuery}
use Rattle.bq_query_check.specs.Verdict.{Fault}
use Rattle.bq_run_report.specs.Report.{Inside, ReplyView, all_faults}
use Rattle.bq_run_write.specs.declared.ending.NoAnswer.{NoAnswer}
use Rattle.bq_run_write.specs.Ending.{status_by}
use Rattle.bq_run_write.specs.Report.{ReportView}
use Rattle.bq_run.specs.WorkspaceRun.{refused}
use Rattle.bq_run_facts.specs.Facts.{IsFactsBy, IsFactsOn, TellsBy, TellsFacts, before_of, fault_by, further_lines}
use Rattle.bq_run_facts.specs.Lines.{direct, fault_objects, line_at, line_by, line_of_module, module_lines, statements_by, target_lines}
use Rattle.bq_run_laws.specs.FactsOrder.{lines_of, BeginsWithKey, AreTargetsModulesFaults, TargetsComeFirst}

-- ---- lines that are objects whose first key is this

-- the text is the lines of so many such objects
record AreLinesOf (key : List ℕ) (n : ℕ) (text : List ℕ) : Type 0 where
  values : List Json
  count : length values ≡ n
  is : text ≡ lines_of values
  each : AllByRecursion (BeginsWithKey key) values

none_of : (key : List ℕ) → AreLinesOf key 0 []
none_of key = record { values = []; count = refl; is = refl; each = tt }

one_of : (key : List ℕ) (v : Json) (line : List ℕ) → BeginsWithKey key v → line ≡ value_text v ++ 10 ∷ [] → AreLinesOf key 1 line
one_of key v line begins e = record { values = v ∷ []; count = refl; is = e ∙ sym (append-nil (value_text v ++ 10 ∷ [])); each = (begins, tt) }

all_of : (P : Json → Type 0) (vs ws : List Json) → AllByRecursion P vs → AllByRecursion P ws → AllByRecursion P (vs ++ ws)
all_of P [] ws a b = b
all_of P (v ∷ vs) ws a b = (a.0, all_of P vs ws a.1 b)

-- one more in front
one_more : (key : List ℕ) (n : ℕ) (xs ys : List ℕ) → AreLinesOf key 1 xs → AreLinesOf key n ys → AreLinesOf key (suc n) (xs ++ ys)
one_more key n xs ys a b = record {
  values = a.values ++ b.values;
  count = omega (arith, length-append a.values b.values, a.count, b.count);
  is = ap (λ (t : List ℕ). t ++ ys) a.is ∙ (ap (λ (t : List ℕ). lines_of a.values ++ t) b.is ∙ sym (flat_map-append (λ v. value_text v ++ 10 ∷ []) a.values b.values));
  each = all_of (BeginsWithKey key) a.values b.values a.each b.each;
}

each_of : {X : Type 0} (key : List ℕ) (f : X → List ℕ) → ((x : X) → AreLinesOf key 1 (f x)) → (xs : List X) → AreLinesOf key (length xs) (flat_map f xs)
each_of key f h [] = none_of key
each_of key f h (x ∷ xs) = one_more key (length xs) (f x) (flat_map f xs) (h x) (each_of key f h xs)

-- ---- targets, modules and faults

begins_target : (t : Target) (file : List ℕ) (deps : List LabelParts) → BeginsWithKey (codes "target") (target_value t file deps)
begins_target t file deps = record { first = labelled (codes "target") t.label; further = drop 1 (target_named t file deps); object = refl; named = refl }

begins_module : (l : LabelParts) (loads : List LoadStmt) (files : List LabelParts) → BeginsWithKey (codes "module") (module_value l loads files)
begins_module l loads files = record { first = labelled (codes "module") l; further = drop 1 (module_named l loads files); object = refl; named = refl }

begins_fault : (l : FaultLine) → BeginsWithKey (codes "fault") (fault_value l)
begins_fault l = record { first = written (codes "fault") (fault_code l); further = drop 1 (fault_named l); object = refl; named = refl }

there : (ts : List Target) (x : ℕ) → x < length ts → (t : Target) × (slice_get ts x ≡ Some t)
there [] x inside = absurd (omega arith)
there (t ∷ ts) zero inside = (t, refl)
there (t ∷ ts) (suc x) inside = there ts x (omega arith)

of_target : (packages : List BuildFile) (w : GraphParts) (x : ℕ) → x < length w.targets → AreLinesOf (codes "target") 1 (line_at packages w x)
unfolding line_at
of_target packages w x inside =
    let found = there w.targets x inside in
    let t = found.0 in
    let deps = labels_at w.targets (direct w x) in
    one_of (codes "target") (target_value t (file_of packages t) deps) (line_at packages w x) (begins_target t (file_of packages t) deps)
    (ap (line_by packages w x) found.1 ∙ lines.target_lines t (file_of packages t) deps)

of_targets : (packages : List BuildFile) (w : GraphParts) (numbers : List ℕ) → All (λ x. x < length w.targets) numbers
    → AreLinesOf (codes "target") (length numbers) (target_lines packages w numbers)
of_targets packages w [] inside = none_of (codes "target")
of_targets packages w (x ∷ xs) inside =
    one_more (codes "target") (length xs) (line_at packages w x) (target_lines packages w xs) (of_target packages w x (All-head (λ y. y < length w.targets) x xs inside))
    (of_targets packages w xs (All-tail (λ y. y < length w.targets) x xs inside))

of_module : (m : Module) → AreLinesOf (codes "module") 1 (line_of_module m)
of_module m =
    let loads = statements_by m.front in
    let files = loads_by m.front in
    one_of (codes "module") (module_value m.label loads files) (line_of_module m) (begins_module m.label loads files) (lines.module_lines m.label loads files)

of_fault : (l : FaultLine) → AreLinesOf (codes "fault") 1 (fault_object l)
of_fault l = one_of (codes "fault") (fault_value l) (fault_object l) (begins_fault l) (lines.fault_lines l)

-- ---- the whole text

abbrev counts_of : ℕ → ℕ → ℕ → Counts
counts_of targets modules faults = record { targets = targets; modules = modules; faults = faults }

in_order : (origin : Origin) (l m n : ℕ) (text targets modules faults : List ℕ) → text ≡ header_line origin (counts_of l m n) ++ (targets ++ (modules ++ faults))
    → AreLinesOf (codes "target") l targets → AreLinesOf (codes "module") m modules → AreLinesOf (codes "fault") n faults → AreTargetsModulesFaults origin text
in_order origin l m n text ts ms fs e a b c =
    let joined = flat_map-append (λ (v : Json). value_text v ++ 10 ∷ []) in
    let first = header_value origin (counts_of (length a.values) (length b.values) (length c.values)) in
    let counts : counts_of l m n ≡ counts_of (length a.values) (length b.values) (length c.values) = λ i. counts_of (sym a.count i) (sym b.count i) (sym c.count i) in
    let line : header_line origin (counts_of l m n) ≡ value_text first ++ 10 ∷ [] =
    ap (header_line origin) counts ∙ lines.header_lines origin (counts_of (length a.values) (length b.values) (length c.values)) in
    let rest : ts ++ (ms ++ fs) ≡ lines_of (a.values ++ (b.values ++ c.values)) =
    ap (λ (t : List ℕ). t ++ (ms ++ fs)) a.is
    ∙ (ap (λ (t : List ℕ). lines_of a.values ++ (t ++ fs)) b.is
    ∙ (ap (λ (t : List ℕ). lines_of a.values ++ (lines_of b.values ++ t)) c.is
    ∙ (ap (λ (t : List ℕ). lines_of a.values ++ t) (sym (joined b.values c.values)) ∙ sym (joined a.values (b.values ++ c.values))))) in
    record {
      targets = a.values;
      modules = b.values;
      faults = c.values;
      is = e ∙ (ap (λ (t : List ℕ). t ++ (ts ++ (ms ++ fs))) line ∙ ap (λ (t : List ℕ). (value_text first ++ 10 ∷ []) ++ t) rest);
      of_targets = a.each;
      of_modules = b.each;
      of_faults = c.each;
    }

refusal : (r : ReportView) (why : NoAnswer) → r ≡ refused why → r.answer ≡ []
refusal r why e = ap (λ (s : ReportView). s.answer) e

replies : (f : Fault) (origin : Origin) (packages : List BuildFile) (modules : List Module) (w : GraphParts) (asked : Option CheckedQuery) (faults : List FaultLine) (reply : ReplyView)
    → TellsBy f origin packages w asked (further_lines (module_lines modules) (length modules) faults) (status_by faults) reply
    → (reply.text ≡ []) ⊎ AreTargetsModulesFaults origin reply.text
replies None origin packages modules w asked faults reply (numbers, meant, within, is) =
    inr (in_order origin (length numbers) (length modules) (length faults) reply.text (target_lines packages w numbers) (module_lines modules) (fault_objects faults)
    (ap (λ (s : ReplyView). s.text) is) (of_targets packages w numbers within) (each_of (codes "module") line_of_module of_module modules)
    (each_of (codes "fault") fault_object of_fault faults))
replies (Some why) origin packages modules w asked faults reply is = inl (ap (λ (s : ReplyView). s.text) is)

reports : (origin : Origin) (files : List File) (g : LoadParts) (i : Inside) (asked : Option CheckedQuery) (r : ReportView) → TellsFacts (before_of origin files g) i asked r
    → (r.answer ≡ []) ⊎ AreTargetsModulesFaults origin r.answer
reports origin files g i asked r tells = replies (fault_by tells.graph asked) origin (packages_of files) g.modules tells.graph asked (all_faults i) _ tells.reply

pub targets_come_first : TargetsComeFirst
targets_come_first origin files query r (IsFactsOn.wrong_query text why e wrong is) = inl (refusal r _ is)
targets_come_first origin files query r (IsFactsOn.read asked is (IsFactsBy.wrong_schema line e bad)) = inl (refusal r _ bad)
targets_come_first origin files query r (IsFactsOn.read asked is (IsFactsBy.too_many rules e many bad)) = inl (refusal r _ bad)
targets_come_first origin files query r (IsFactsOn.read asked is (IsFactsBy.loaded rules g e found fits tells)) = reports origin files g _ asked r tells
