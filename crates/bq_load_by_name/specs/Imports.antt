-- What a file gets of the modules that it loads, by names: what bq_load says, over files as they are parsed (Bazel, "BUILD files" on load
-- statements): the global of the symbol's name that the other file itself binds, unless its name begins with `_`.
use Rattle.std.specs.Prelude.{ℕ, List, [], ◌∷◌, ◌++◌, Option, Some, None, Result, Ok, Err, slice_get, option_and_then, if◌then◌else◌}
use Rattle.bq_base.specs.declared.fault.Fault.{Fault}
use Rattle.bq_base.specs.declared.fault.LoadFault.{LoadFault}
use Rattle.bq_base.specs.declared.fault.LoadFault.TheVariants as f
use Rattle.bq_label.specs.Label.{LabelParts}
use Rattle.bq_resolve_scope.specs.Names.{Name, global_names}
use Rattle.bq_resolve_laws.specs.Files.{ParsedFile}
use Rattle.bq_resolve_laws.specs.Loads.{WrittenLoad}
use Rattle.bq_value.specs.Datum.{Datum}
use Rattle.bq_load_front.specs.Resolved.{◌>>=◌}
use Rattle.bq_load_discover.specs.Edges.{number_in}
use Rattle.bq_load.specs.Imports.{value_named, is_private, or_no_symbol, at_symbol}
use Rattle.bq_load.specs.Views.{ModuleView}

-- what a file loads: the files that its loads name, each once, in the order in which they are first named; a module for each of them; and
-- the files of all modules by their numbers, as they are parsed
pub record LoadedParts : Type 0 where
  pub files : List LabelParts
  pub modules : List ModuleView
  pub parsed : List (Option ParsedFile)

-- the module of a file that a load names
unfoldable pub module_named : LoadedParts → LabelParts → Option ModuleView
module_named x l = option_and_then (slice_get x.modules) (number_in x.files l)

-- ---- a symbol

-- the value of a module's global, one of the names that its parsed file binds at its top level
abbrev pub global_by : List (Option ParsedFile) → Option ModuleView → Name → Option Datum
global_by parsed None name = None
global_by parsed (Some m) name =
    value_named name (elim (slice_get parsed m.frozen.own) [ Some (Some file) ↦ global_names file.statements | _ ↦ [] ]) m.frozen.cells.globals

-- what a module exports by this name: F34 where it is private, else F33 where the module has no such global
unfoldable pub exported : List (Option ParsedFile) → Option ModuleView → Name → Result Datum LoadFault
exported parsed m name = if is_private name then Err f.PrivateSymbol else or_no_symbol (global_by parsed m name)

-- ---- loads

-- the values so far, and one for each of these symbols; or the fault of the first bad one
unfoldable pub symbol_values : List (Option ParsedFile) → Option ModuleView → ℕ → List Datum → List Name → Result (List Datum) (Fault LoadFault)
symbol_values parsed m line done [] = Ok done
symbol_values parsed m line done (n ∷ ns) = at_symbol line n (exported parsed m n) >>= λ v. symbol_values parsed m line (done ++ v ∷ []) ns

-- the values so far, and those of the symbols of these loads, which name these files
unfoldable pub imports : LoadedParts → List Datum → List WrittenLoad → List LabelParts → Result (List Datum) (Fault LoadFault)
imports x done [] ls = Ok done
imports x done (s ∷ ss) [] = Ok done
imports x done (s ∷ ss) (l ∷ ls) = symbol_values x.parsed (module_named x l) s.line done s.symbols >>= λ vs. imports x vs ss ls
