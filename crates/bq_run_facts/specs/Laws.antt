-- What the definitions say together.
use Rattle.std.specs.Prelude.{◌≡◌, ◌≢◌, ◌↔◌, ℕ, List, Some, length, slice_get}
use Rattle.std.specs.List.{Contains}
use Rattle.bq_label.specs.declared.workspace.File.{File}
use Rattle.bq_label.specs.Label.{LabelParts}
use Rattle.bq_package_target.specs.declared.target.Target.{Target}
use Rattle.bq_package_target.specs.Package.{PackageTargets}
use Rattle.bq_facts.specs.Labels.{labels_at}
use Rattle.bq_facts.specs.Names.{named_labels}
use Rattle.bq_query_graph.specs.Paths.{AreBelow, DepsWithin, Pair}
use Rattle.bq_query_target_graph.specs.Edges.{IsGraphOf}
use Rattle.bq_query_target_graph.specs.Graph.{GraphParts, IsGraph}
use Rattle.bq_query_target_graph.specs.Order.{all_targets, target_labels}
use Rattle.bq_run_write.specs.Report.{ReportView}
use Rattle.bq_run.specs.WorkspaceRun.{IsReportOn}
use Rattle.bq_run.specs.declared.options.Options.{Options}
use Rattle.bq_run_facts.specs.Facts.{IsFactsOn, origin_of}
use Rattle.bq_run_facts.specs.Lines.{direct}

-- what x depends on directly is deps(x, 1) - x
abbrev pub DirectIsDeps : Type 0
DirectIsDeps = (w : GraphParts) (x y : ℕ) → AreBelow w.edges → length w.edges ≡ length w.targets → Contains (direct w x) y ↔ (DepsWithin w.edges (λ a. a ≡ x) 1 y × (y ≢ x))

-- a run that is asked for facts has the faults, and the ending, of a run that is asked for the answer
abbrev pub EndsAsAnswer : Type 0
EndsAsAnswer =
    (version : List ℕ) (o : Options) (files : List File) (r : ReportView) → IsFactsOn (origin_of version o) files (Some o.query.items) r
    → (answer : List ℕ) × IsReportOn o files (record { faults = r.faults; answer = answer; end = r.end })

-- ---- names

-- what a target depends on directly is those of the labels that it names that targets have, but for its own
abbrev pub DirectAreNames : Type 0
DirectAreNames =
    (ps : List PackageTargets) (w : GraphParts) (x : ℕ) (t : Target) → IsGraphOf ps w → IsGraph w → slice_get w.targets x ≡ Some t → (l : LabelParts)
    → Contains (labels_at w.targets (direct w x)) l ↔ (Contains (named_labels t) l × Contains (target_labels w.targets) l × (l ≢ t.label))

-- an edge leads from the target of number x to one that has this label
pub record LeadsTo (w : GraphParts) (x : ℕ) (l : LabelParts) : Type 0 where
  pub number : ℕ
  pub target : Target
  pub is : slice_get w.targets number ≡ Some target
  pub label : target.label ≡ l
  pub edge : Pair w.edges x number

-- an edge leads to a label exactly where the target names it and a target has it, whichever targets there are
abbrev pub EdgesAreNames : Type 0
EdgesAreNames =
    (ps : List PackageTargets) (w : GraphParts) (x : ℕ) (t : Target) → IsGraphOf ps w → slice_get w.targets x ≡ Some t → (l : LabelParts)
    → LeadsTo w x l ↔ (Contains (named_labels t) l × Contains (target_labels w.targets) l)

-- ---- parts of a workspace

-- one of them has the package
abbrev pub InSome : List (List PackageTargets) → PackageTargets → Type 0
InSome parts p = (part : List PackageTargets) × Contains parts part × Contains part p

-- the parts have just these packages
abbrev pub AreParts : List (List PackageTargets) → List PackageTargets → Type 0
AreParts parts ps = (p : PackageTargets) → Contains ps p ↔ InSome parts p

-- it is a target of a part
abbrev pub OfSome : List (List PackageTargets) → Target → Type 0
OfSome parts t = (part : List PackageTargets) × Contains parts part × Contains (all_targets part) t

-- of the targets with these numbers, a part has the first, which names the label of the second, which a part has
pub record IsJoined (parts : List (List PackageTargets)) (ts : List Target) (a b : ℕ) : Type 0 where
  pub source : Target
  pub from : slice_get ts a ≡ Some source
  pub target : Target
  pub to : slice_get ts b ≡ Some target
  pub of_some : OfSome parts source
  pub of_another : OfSome parts target
  pub named : Contains (named_labels source) target.label

-- a workspace has the targets of its parts, and the edges along their names
abbrev pub PartsJoin : Type 0
PartsJoin =
    (parts : List (List PackageTargets)) (ps : List PackageTargets) (w : GraphParts) → AreParts parts ps → IsGraphOf ps w
    → ((t : Target) → Contains w.targets t ↔ OfSome parts t) × ((a b : ℕ) → Pair w.edges a b ↔ IsJoined parts w.targets a b)
