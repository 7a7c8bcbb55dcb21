-- In which lines the faults of a run are.
use Rattle.std.specs.Prelude.{◌≡◌, ◌≤◌, ℕ, List, Some}
use Rattle.std.specs.List.{Contains}
use Rattle.bq_label.specs.declared.workspace.File.{File}
use Rattle.bq_label.specs.Label.{LabelParts, full_form}
use Rattle.bq_label.specs.Packages.{label_file, packages_of}
use Rattle.bq_label.specs.Workspace.{IsWorkspace}
use Rattle.bq_resolve_scope.specs.declared.file.ResolvedFile.{ResolvedFile}
use Rattle.bq_package_schema.specs.Schema.{Rules}
use Rattle.bq_base_texts.specs.declared.fault_line.FaultLine.{FaultLine}
use Rattle.bq_load_front.specs.Inputs.{InputParts}
use Rattle.bq_load_front.specs.FileLaws.{TextResolvesTo}
use Rattle.bq_load_discover.specs.LoadGraph.{IsLoadGraph, inputs_of}
use Rattle.bq_load_laws.specs.Faults.Parts.{universe_at}
use Rattle.bq_load_laws.specs.Packages.Declared.{IsLineOf}
use Rattle.bq_query_target_graph.specs.Dangling.{dangling_lines}
use Rattle.bq_run_report.specs.Report.{all_faults}
use Rattle.bq_run.specs.WorkspaceRun.{Loads, Fronts, AreFronts, loaded_in}

-- Lines are counted from 1: so no fault line of a run names line 0, be it of a module or of a label that names no target.
abbrev pub FaultLinesStandOnLines : Type 0
FaultLinesStandOnLines =
    (files : List File) (rules : Rules) (fronts : Fronts) (limit : ℕ) (labels : List LabelParts) (edges : Loads) → IsWorkspace files → AreFronts (inputs_of files rules) fronts
    → IsLoadGraph (packages_of files) fronts labels edges → (line : FaultLine) → Contains (all_faults (loaded_in files rules fronts limit labels edges)) line → 1 ≤ line.line

-- the line names a BUILD file, and the line of one of its top-level statements
pub record IsOfStatement (inputs : InputParts) (line : FaultLine) : Type 0 where
  pub build_file : LabelParts
  pub label : line.label ≡ full_form build_file
  pub file : File
  pub there : label_file inputs.files build_file ≡ Some file
  pub resolved : ResolvedFile
  pub has : TextResolvesTo (universe_at inputs build_file) file.content resolved
  pub at : IsLineOf resolved.statements line.line

-- F79, of a label that names no target: its line is that of the target that depends on the label (`IsDangling`)
abbrev pub DanglingLinesAreOfStatements : Type 0
DanglingLinesAreOfStatements =
    (files : List File) (rules : Rules) (fronts : Fronts) (limit : ℕ) (labels : List LabelParts) (edges : Loads) → IsWorkspace files → AreFronts (inputs_of files rules) fronts
    → IsLoadGraph (packages_of files) fronts labels edges → (line : FaultLine) → Contains (dangling_lines (loaded_in files rules fronts limit labels edges).packages) line
    → IsOfStatement (inputs_of files rules) line
