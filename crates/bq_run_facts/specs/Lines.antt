-- The lines of facts (`--facts`): one for each target, each module and each fault.
use Rattle.std.specs.Prelude.{ℕ, Bool, ◌&&◌, not, nat_eq, List, [], Option, Some, None, Result, Ok, Err, length, slice_get}
use Rattle.std.specs.List.{filter, flat_map, list_any, range_with_len}
use Rattle.bq_base.specs.declared.fault.FaultKind.{FaultKind}
use Rattle.bq_base.specs.declared.fault.Fault.{Fault}
use Rattle.bq_label.specs.declared.packages.BuildFile.{BuildFile}
use Rattle.bq_base_texts.specs.declared.fault_line.FaultLine.{FaultLine}
use Rattle.bq_resolve_scope.specs.declared.loads.LoadStmt.{LoadStmt}
use Rattle.bq_load_front.specs.declared.front.Front.{Front}
use Rattle.bq_load_front.specs.Front.{loads_by}
use Rattle.bq_load_discover.specs.declared.modules.Module.{Module}
use Rattle.bq_package_target.specs.declared.target.Target.{Target}
use Rattle.bq_query_graph.specs.Paths.{row}
use Rattle.bq_query_target_graph.specs.Graph.{GraphParts}
use Rattle.bq_facts.specs.Labels.{labels_at}
use Rattle.bq_facts.specs.TargetLine.{file_of, target_line}
use Rattle.bq_facts.specs.ModuleLine.{module_line}
use Rattle.bq_facts.specs.FaultObject.{fault_object}

-- ---- targets

-- an edge of x leads to y, which is another target
abbrev pub depends : GraphParts → ℕ → ℕ → Bool
depends w x y = list_any (nat_eq y) (row w.edges x) && not (nat_eq y x)

-- what x depends on directly, in the order of the targets: `direct_is_deps` says that it is `deps(x, 1) - x`
unfoldable pub direct : GraphParts → ℕ → List ℕ
direct w x = filter (depends w x) (range_with_len 0 (length w.targets))

-- the line of this target, which has the number x; empty where no target has it
abbrev pub line_by : List BuildFile → GraphParts → ℕ → Option Target → List ℕ
line_by packages w x None = []
line_by packages w x (Some t) = target_line t (file_of packages t) (labels_at w.targets (direct w x))

-- the line of the target of this number
unfoldable pub line_at : List BuildFile → GraphParts → ℕ → List ℕ
line_at packages w x = line_by packages w x (slice_get w.targets x)

-- the lines of the targets of these numbers, one after another
abbrev pub target_lines : List BuildFile → GraphParts → List ℕ → List ℕ
target_lines packages w numbers = flat_map (line_at packages w) numbers

-- ---- modules

-- the loads of a file: none where it has a fault of its own or a bad load
abbrev pub statements_by : Result Front (Fault FaultKind) → List LoadStmt
statements_by (Err why) = []
statements_by (Ok front) = front.file.loads

-- the line of a module, with each load beside the label of the file that it names
abbrev pub line_of_module : Module → List ℕ
line_of_module m = module_line m.label (statements_by m.front) (loads_by m.front)

-- the lines of modules, one after another
abbrev pub module_lines : List Module → List ℕ
module_lines modules = flat_map line_of_module modules

-- ---- faults

-- a line with the object of each fault line, one after another
abbrev pub fault_objects : List FaultLine → List ℕ
fault_objects lines = flat_map fault_object lines
