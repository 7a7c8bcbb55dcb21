-- The law of names for load graphs: the outcomes by names are the outcomes by slots.
use Rattle.std.specs.Prelude.{◌≡◌, ◌↔◌, ℕ, List, map, Result}
use Rattle.bq_label.specs.declared.workspace.File.{File}
use Rattle.bq_package_schema.specs.Schema.{Rules}
use Rattle.bq_resolve_laws.specs.Resolution.{InOrder}
use Rattle.bq_load_front.specs.Agreement.{IsFrontOf}
use Rattle.bq_load_front.specs.Reading.{parsed_of}
use Rattle.bq_load_discover.specs.LoadGraph.{GraphParts, IsReadGraph, inputs_of}
use Rattle.bq_load_discover.specs.declared.modules.Module.{Module}
use Rattle.bq_load_discover.specs.declared.load_err.LoadErr.{LoadErr}
use Rattle.bq_load.specs.Evaluation as slots
use Rattle.bq_load.specs.Loaded.{LoadsWithin}
use Rattle.bq_base.specs.declared.limits.Limits.{Limits}
use Rattle.bq_load.specs.Results as results
use Rattle.bq_load.specs.Loading.{LoadingParts, loading_in}
use Rattle.bq_load.specs.Views.{ModuleView}
use Rattle.bq_load.specs.declared.loaded.Loaded.{Loaded}
use Rattle.bq_load_by_name.specs.Evaluation.{means}
use Rattle.bq_load_by_name.specs.Parsed.{ParsedModule, ParsedParts, parsed_module, parsed_in}
use Rattle.bq_load_by_name.specs.Results.{outcomes, LoadsByNames}

-- a module is read as what its file is: with the same loads and what the file resolves to, or the same fault
abbrev pub IsReadAs : ParsedModule → Module → Type 0
IsReadAs s m = (m.label ≡ s.label) × IsFrontOf s.front m.front

-- as many modules as files, and each is read, in the same order, as what its file is
abbrev pub AreReadAs : List ParsedModule → List Module → Type 0
AreReadAs ss ms = InOrder IsReadAs ss ms

-- what is read of a load graph, with these modules in place of those that were read
abbrev pub with_modules : LoadingParts → List ParsedModule → ParsedParts
with_modules x modules = record { modules = modules; paths = x.paths; packages = x.packages; rules = x.rules; names = x.names; limit = x.limit }

-- the modules of a load graph are read as what their files are
abbrev pub ModulesAreRead : Type 0
ModulesAreRead = (files : List File) (rules : Rules) (g : GraphParts) → IsReadGraph (inputs_of files rules) g → AreReadAs (map (parsed_module (parsed_of (inputs_of files rules))) g.labels) g.modules

-- A module evaluates by names to what it evaluates to by slots: whatever modules it loads, the same value, or the same fault.
abbrev pub ModulesAgree : Type 0
ModulesAgree = (x : LoadingParts) (all : List ParsedModule) → AreReadAs all x.modules → (m : ℕ) (modules : List ModuleView) → means (with_modules x all) m modules ≡ slots.means x m modules

-- The outcomes of the modules of a workspace, by the recursion along loads: their globals, cells, prints, faults and packages.
abbrev pub OutcomesAgree : Type 0
OutcomesAgree =
    (files : List File) (rules : Rules) (limit : ℕ) (g : GraphParts) → IsReadGraph (inputs_of files rules) g
    → outcomes (parsed_in files rules (parsed_of (inputs_of files rules)) limit g.labels) g.edges ≡ results.outcomes (loading_in files rules limit g) g.edges

-- a workspace loads by names as by slots
abbrev pub WorkspacesAgree : Type 0
WorkspacesAgree = (files : List File) (rules : Rules) (limits : Limits) (r : Result Loaded LoadErr) → LoadsByNames files rules limits r ↔ LoadsWithin files rules limits r
