-- What a file gets of the modules that it loads (Bazel, "BUILD files" on load statements): the global of the symbol's name that the other
-- file itself binds, unless its name begins with `_`. It serves `exports` and `imports`.
use Rattle.std.specs.Prelude.{ℕ, List, [], ◌∷◌, ◌++◌, map, nat_eq, bytes_eq, Bool, Option, Some, None, Result, Ok, Err, slice_get, codes, option_and_then, if◌then◌else◌}
use Rattle.std.specs.List.{starts_with}
use Rattle.std.specs.declared.alloc.Global.{Global}
use Rattle.std.specs.declared.sync.Arc.{Arc}
use Rattle.bq_base.specs.declared.fault.Fault.{Fault}
use Rattle.bq_base.specs.declared.fault.LoadFault.{LoadFault}
use Rattle.bq_base.specs.declared.fault.LoadFault.TheVariants as f
use Rattle.bq_label.specs.Label.{LabelParts}
use Rattle.bq_label_set.specs.Labels.{with_labels}
use Rattle.bq_resolve_scope.specs.Names.{Name}
use Rattle.bq_resolve_scope.specs.declared.loads.LoadStmt.{LoadStmt}
use Rattle.bq_resolve_scope.specs.declared.loads.LoadedSymbol.{LoadedSymbol}
use Rattle.bq_resolve_scope.specs.declared.file.ResolvedFile.{ResolvedFile}
use Rattle.bq_value.specs.Datum.{Datum}
use Rattle.bq_load_front.specs.Resolved.{◌>>=◌}
use Rattle.bq_load_discover.specs.Edges.{number_in}
use Rattle.bq_load_module.specs.Round.{lent_files}
use Rattle.bq_load.specs.declared.imports.LoadedFiles.{LoadedFiles}
use Rattle.bq_load_module.specs.declared.outcome.LoadedModule.{LoadedModule}
use Rattle.bq_load.specs.Views.{ModuleView, module_view, module_views}

-- what a file loads: the files that its loads name, each once, in the order in which they are first named; a module for each of them; and
-- the resolved files of all modules by their numbers
pub record LoadedParts : Type 0 where
  pub files : List LabelParts
  pub modules : List ModuleView
  pub resolved : List (Option ResolvedFile)

-- the files that a file loads, with their modules and all resolved files, as contracts see them
abbrev pub loaded_of : LoadedFiles → LoadedParts
loaded_of x = record { files = with_labels [] x.named.now; modules = module_views x.modules.now; resolved = lent_files x.resolved.now }

-- the module of a file that a load names
unfoldable pub module_named : LoadedParts → LabelParts → Option ModuleView
module_named x l = option_and_then (slice_get x.modules) (number_in x.files l)

-- ---- a symbol

-- the value in the place in which its name is
unfoldable pub value_named : Name → List Name → List Datum → Option Datum
value_named name [] vs = None
value_named name (n ∷ ns) [] = None
value_named name (n ∷ ns) (v ∷ vs) = if bytes_eq name n then Some v else value_named name ns vs

-- the names of the globals of a resolved file; none where no module has the number or the module has no such file
abbrev pub globals_by : Option (Option ResolvedFile) → List Name
globals_by None = []
globals_by (Some None) = []
globals_by (Some (Some file)) = file.globals

-- the names of a module's globals
abbrev pub names_in : List (Option ResolvedFile) → ModuleView → List Name
names_in resolved m = globals_by (slice_get resolved m.frozen.own)

-- the names of the globals of a module that may be missing; none where it is
abbrev pub names_by : List (Option ResolvedFile) → Option ModuleView → List Name
names_by resolved None = []
names_by resolved (Some m) = names_in resolved m

-- the names of each module's globals, by the resolved files of all modules
abbrev pub names_of : List (Option ResolvedFile) → List (Arc LoadedModule Global) → List (List Name)
names_of resolved ms = map (λ m. names_in resolved (module_view m.value)) ms

-- the value of a module's global
abbrev pub global_of : List (Option ResolvedFile) → ModuleView → Name → Option Datum
global_of resolved m name = value_named name (globals_by (slice_get resolved m.frozen.own)) m.frozen.cells.globals

-- the value of the global of this name in a module; None where the module is missing or has no such global
abbrev pub global_by : List (Option ResolvedFile) → Option ModuleView → Name → Option Datum
global_by resolved None name = None
global_by resolved (Some m) name = global_of resolved m name

-- a name that begins with `_` can't be loaded
abbrev pub is_private : Name → Bool
is_private name = starts_with nat_eq name (codes "_")

-- the value of a symbol, or the fault that the file has none
abbrev pub or_no_symbol : Option Datum → Result Datum LoadFault
or_no_symbol None = Err f.NoSymbol
or_no_symbol (Some v) = Ok v

-- what a module exports by this name: F34 where it is private, else F33 where the module has no such global
unfoldable pub exported : List (Option ResolvedFile) → Option ModuleView → Name → Result Datum LoadFault
exported resolved m name = if is_private name then Err f.PrivateSymbol else or_no_symbol (global_by resolved m name)

-- ---- loads

-- a fault names the line of the load and the symbol
abbrev pub at_symbol : ℕ → Name → Result Datum LoadFault → Result Datum (Fault LoadFault)
at_symbol line name (Ok v) = Ok v
at_symbol line name (Err kind) = Err (record { kind = kind; line = line; detail = name })

-- the values so far, and one for each of these clauses; or the fault of the first bad one
unfoldable pub clause_values : List (Option ResolvedFile) → Option ModuleView → ℕ → List Datum → List LoadedSymbol → Result (List Datum) (Fault LoadFault)
clause_values resolved m line done [] = Ok done
clause_values resolved m line done (c ∷ cs) = at_symbol line c.symbol (exported resolved m c.symbol) >>= λ v. clause_values resolved m line (done ++ v ∷ []) cs

-- the values so far, and those of the clauses of these loads, which name these files
unfoldable pub imports : LoadedParts → List Datum → List LoadStmt → List LabelParts → Result (List Datum) (Fault LoadFault)
imports x done [] ls = Ok done
imports x done (s ∷ ss) [] = Ok done
imports x done (s ∷ ss) (l ∷ ls) = clause_values x.resolved (module_named x l) s.line done s.clauses >>= λ vs. imports x vs ss ls
