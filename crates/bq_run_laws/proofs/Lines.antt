-- In which lines the faults of a run are.
use Rattle.std.proofs.Common.{◌≡◌, ◌∙◌, ◌⊎◌, ◌≤◌, ℕ, List, [], ◌∷◌, Contains, inl, inr, refl, sym, ap, subst}
use Rattle.std.specs.BTreeSet.{insert_key}
use Rattle.std.specs.List.{AllByRecursion}
use Rattle.std.specs.Ordering.{match_ordering}
use Rattle.std.specs.declared.cmp.Ordering.{Ordering}
use Rattle.std.specs.declared.cmp.Ordering.TheVariants.{Less, Equal, Greater}
use Rattle.bq_label.proofs.Orders.{at_head, in_tail}
use Rattle.bq_label.specs.declared.workspace.File.{File}
use Rattle.bq_label.specs.Label.{LabelParts}
use Rattle.bq_label.specs.Packages.{packages_of}
use Rattle.bq_label.specs.Workspace.{IsWorkspace}
use Rattle.bq_resolve_scope.specs.declared.file.FileLine.{FileLine}
use Rattle.bq_package_schema.specs.Schema.{Rules}
use Rattle.bq_package_target.specs.declared.target.Target.{Target}
use Rattle.bq_package_target.specs.Package.{PackageTargets}
use Rattle.bq_package_target.specs.Target.{source, dependencies}
use Rattle.bq_base_texts.specs.declared.fault_line.FaultLine.{FaultLine}
use Rattle.bq_base_texts.specs.FaultLine.{line_cmp, put_lines}
use Rattle.bq_base_texts.proofs.LineOrder.{same_lines}
use Rattle.bq_load_front.specs.Inputs.{InputParts}
use Rattle.bq_load_front.specs.Reading.{parsed_of}
use Rattle.bq_load_front.proofs.Fronts.{fronts_are}
use Rattle.bq_load_discover.specs.LoadGraph.{GraphParts, IsLoadGraph, IsReadGraph, inputs_of}
use Rattle.bq_load_discover.proofs.Lists.{none_in}
use Rattle.bq_load.specs.Results.{outcomes}
use Rattle.bq_load.specs.Loading.{loading_in}
use Rattle.bq_load_by_name.proofs.Outcomes.{outcomes_agree, read_graph, is_read_graph}
use Rattle.bq_load_laws.specs.Packages.Declared.{IsLineOf, IsFile, DeclaresIn}
use Rattle.bq_load_laws.proofs.Faults.Lines.{lines_in_graph}
use Rattle.bq_load_laws.proofs.Faults.Numbered.{each_of, faults_stand, file_numbered, by_statements}
use Rattle.bq_load_laws.proofs.Packages.Declared.{declared_in_graph}
use Rattle.bq_query_target_graph.specs.Dangling.{dangling_line, all_dangling, dangling_lines}
use Rattle.bq_query_target_graph.proofs.Danglings.{in_words}
use Rattle.bq_run_report.specs.Report.{Inside, all_faults}
use Rattle.bq_run.specs.WorkspaceRun.{Loads, Fronts, inside_by, loaded_in}
use Rattle.bq_run_laws.specs.Lines.{FaultLinesStandOnLines, IsOfStatement, DanglingLinesAreOfStatements}

-- ---- lists

by_each : {A : Type 0} (P : A → Type 0) (xs : List A) → ((x : A) → Contains xs x → P x) → AllByRecursion P xs
by_each P [] f = tt
by_each P (x ∷ xs) f = (f x (at_head x xs), by_each P xs (λ z c. f z (in_tail x xs z c)))

-- lines that are put among others
module _ (P : FaultLine → Type 0) where
  put_here : (o : Ordering) (k x : FaultLine) (xs more : List FaultLine) → P k → AllByRecursion P (x ∷ xs) → AllByRecursion P more → AllByRecursion P (match_ordering o (k ∷ x ∷ xs) (x ∷ xs) (x ∷ more))
  put_here Less k x xs more h all rest = (h, all)
  put_here Equal k x xs more h all rest = all
  put_here Greater k x xs more h all rest = (all.0, rest)

  put_one : (k : FaultLine) (xs : List FaultLine) → P k → AllByRecursion P xs → AllByRecursion P (insert_key line_cmp xs k)
  put_one k [] h all = (h, tt)
  put_one k (x ∷ xs) h all = put_here (line_cmp k x) k x xs (insert_key line_cmp xs k) h all (put_one k xs h all.1)

  put_all : (placed lines : List FaultLine) → AllByRecursion P placed → AllByRecursion P lines → AllByRecursion P (put_lines placed lines)
  unfolding put_lines
  put_all placed [] all more = all
  put_all placed (l ∷ ls) all more = put_all (insert_key line_cmp placed l) ls (put_one l placed more.0 all) more.1

-- ---- labels that name no target

files_depend_on_nothing : (l : LabelParts) (line : ℕ) → dependencies (source l line) ≡ []
unfolding dependencies
files_depend_on_nothing l line = refl

-- what depends on something is no source file
by_call : (statements : List FileLine) (t : Target) (label : LabelParts) → Contains (dependencies t) label → IsFile t ⊎ IsLineOf statements t.line → IsLineOf statements t.line
by_call statements t label c (inr at) = at
by_call statements t label c (inl e) =
    let none : dependencies t ≡ [] = ap dependencies e ∙ files_depend_on_nothing t.label t.line in
    absurd (none_in label (subst (λ (ls : List LabelParts). Contains ls label) none c))

by_owner : (inputs : InputParts) (p : PackageTargets) (t : Target) (label : LabelParts) (line : FaultLine) → Contains p.targets t → Contains (dependencies t) label
    → line ≡ dangling_line p.build_file t.line label → (p.targets ≡ []) ⊎ DeclaresIn inputs p.build_file p → IsOfStatement inputs line
by_owner inputs p t label line known c e (inl none) = absurd (none_in t (subst (λ (ts : List Target). Contains ts t) none known))
by_owner inputs p t label line known c e (inr d) = record {
  build_file = p.build_file;
  label = ap (λ (x : FaultLine). x.label) e;
  file = d.file;
  there = d.there;
  resolved = d.resolved;
  has = d.has;
  at = subst (IsLineOf d.resolved.statements) (sym (ap (λ (x : FaultLine). x.line) e)) (by_call d.resolved.statements t label c (by_statements d.resolved.statements p d.declared t known));
}

-- what the modules of a load graph give, by slots: it is what they give by names
abbrev by_slots : List File → Rules → ℕ → GraphParts → Inside
by_slots files rules limit g = inside_by (packages_of files) (outcomes (loading_in files rules limit g) g.edges)

same_inside : (files : List File) (rules : Rules) (limit : ℕ) (g : GraphParts) → IsReadGraph (inputs_of files rules) g → loaded_in files rules (parsed_of (inputs_of files rules)) limit g.labels g.edges ≡ by_slots files rules limit g
same_inside files rules limit g is = ap (inside_by (packages_of files)) (outcomes_agree files rules limit g is)

dangling_by_slots : (files : List File) (rules : Rules) (limit : ℕ) (g : GraphParts) → IsWorkspace files → IsReadGraph (inputs_of files rules) g → (line : FaultLine)
    → Contains (dangling_lines (by_slots files rules limit g).packages) line → IsOfStatement (inputs_of files rules) line
dangling_by_slots files rules limit g w is line c =
    let packages = (by_slots files rules limit g).packages in
    let d = (in_words packages line).0 ((same_lines (all_dangling packages) line).0 c) in
    by_owner (inputs_of files rules) d.owner d.target d.label line d.declared d.named d.line (declared_in_graph files rules limit g w is d.owner d.known)

of_dangling : (files : List File) (rules : Rules) (limit : ℕ) (labels : List LabelParts) (edges : Loads) → IsWorkspace files → IsLoadGraph (packages_of files) (parsed_of (inputs_of files rules)) labels edges
    → (line : FaultLine) → Contains (dangling_lines (loaded_in files rules (parsed_of (inputs_of files rules)) limit labels edges).packages) line → IsOfStatement (inputs_of files rules) line
of_dangling files rules limit labels edges w graph line c =
    let g : GraphParts = read_graph (inputs_of files rules) labels edges in
    let is : IsReadGraph (inputs_of files rules) g = is_read_graph (inputs_of files rules) labels edges graph in
    dangling_by_slots files rules limit g w is line (subst (λ (i : Inside). Contains (dangling_lines i.packages) line) (same_inside files rules limit g is) c)

pub dangling_told : DanglingLinesAreOfStatements
dangling_told files rules fronts limit labels edges w are graph line c =
    let read : fronts ≡ parsed_of (inputs_of files rules) = fronts_are (inputs_of files rules) fronts are in
    of_dangling files rules limit labels edges w (subst (λ (f : Fronts). IsLoadGraph (packages_of files) f labels edges) read graph) line
    (subst (λ (f : Fronts). Contains (dangling_lines (loaded_in files rules f limit labels edges).packages) line) read c)

-- ---- all fault lines

abbrev Stands : FaultLine → Type 0
Stands x = 1 ≤ x.line

statement_stands : (inputs : InputParts) (line : FaultLine) → IsOfStatement inputs line → 1 ≤ line.line
statement_stands inputs line s =
    let all = (file_numbered inputs s.build_file s.file.content s.resolved s.has).0 in
    subst (λ n. 1 ≤ n) (sym s.at.same) (each_of (λ (x : FileLine). 1 ≤ x.line) s.resolved.statements all s.at.statement s.at.among)

standing : (files : List File) (rules : Rules) (limit : ℕ) (labels : List LabelParts) (edges : Loads) → IsWorkspace files → IsLoadGraph (packages_of files) (parsed_of (inputs_of files rules)) labels edges
    → (line : FaultLine) → Contains (all_faults (loaded_in files rules (parsed_of (inputs_of files rules)) limit labels edges)) line → 1 ≤ line.line
standing files rules limit labels edges w graph line c =
    let g : GraphParts = read_graph (inputs_of files rules) labels edges in
    let is : IsReadGraph (inputs_of files rules) g = is_read_graph (inputs_of files rules) labels edges graph in
    let i = by_slots files rules limit g in
    let modules = by_each Stands i.faults (λ x d. lines_in_graph (λ kind n. 1 ≤ n) faults_stand files rules limit g w is x d) in
    let labels = by_each Stands (dangling_lines i.packages) (λ x d. statement_stands (inputs_of files rules) x (dangling_by_slots files rules limit g w is x d)) in
    each_of Stands (put_lines i.faults (dangling_lines i.packages)) (put_all Stands i.faults (dangling_lines i.packages) modules labels) line
    (subst (λ (j : Inside). Contains (all_faults j) line) (same_inside files rules limit g is) c)

pub lines_stand : FaultLinesStandOnLines
lines_stand files rules fronts limit labels edges w are graph line c =
    let read : fronts ≡ parsed_of (inputs_of files rules) = fronts_are (inputs_of files rules) fronts are in
    standing files rules limit labels edges w (subst (λ (f : Fronts). IsLoadGraph (packages_of files) f labels edges) read graph) line
    (subst (λ (f : Fronts). Contains (all_faults (loaded_in files rules f limit labels edges)) line) read c)
