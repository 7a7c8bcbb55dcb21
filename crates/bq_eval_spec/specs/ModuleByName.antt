-- What a file means by names: the names that it binds, and what its loads bind, before its statements run (Starlark specification, "Module
-- execution").
use Rattle.std.specs.Prelude.{ℕ, List, ◌∷◌, if◌then◌else◌}
use Rattle.bq_parse_grammar.specs.declared.tree.LoadClause.{LoadClause}
use Rattle.bq_parse_grammar.specs.declared.tree.TopLevel.{TopLevel}
use Rattle.bq_resolve_scope.specs.Names.{Name, has, global_names, loaded_names}
use Rattle.bq_resolve_scope.specs.Universe.{UniverseParts}
use Rattle.bq_value.specs.Datum.{Datum}
use Rattle.bq_builtin_machine.specs.Action.{Action}
use Rattle.bq_eval_spec.specs.Primitives.{Primitives}
use Rattle.bq_eval_spec.specs.Calls.{TreeUnit, Units}
use Rattle.bq_eval_spec.specs.Module as language
use Rattle.bq_eval_spec.specs.Module.{Own}
use Rattle.bq_eval_spec.specs.Files.{functions_of, lines_from, load_clauses}
use Rattle.bq_eval_spec.specs.Names.{Env, Round, bind, declare, outside, by_names}

-- ---- loads

-- where it is one of these names
abbrev pub with_first : List Name → Name → Datum → Env → Env
with_first names name v env = if has names name then bind env name v else env

-- of these names, those of the clauses with the values that these give
unfoldable pub first_of_clauses : List Name → List LoadClause → List Datum → Env → Env
first_of_clauses names (c ∷ cs) (v ∷ vs) env = first_of_clauses names cs vs (with_first names c.local.name v env)
first_of_clauses names _ _ env = env

-- what a file's loads bind
unfoldable pub loaded_values : List TopLevel → List Datum → Env
loaded_values ts vs = first_of_clauses (loaded_names ts) (load_clauses ts) vs (declare outside (loaded_names ts))

-- A loaded name that the file binds too is a global whose first value is the loaded one. No other global is bound yet.
unfoldable pub first_globals : List TopLevel → List Datum → Env
first_globals ts vs = first_of_clauses (global_names ts) (load_clauses ts) vs (declare outside (global_names ts))

-- ---- files

-- what is around the blocks of a file
abbrev pub round_of : UniverseParts → List TopLevel → List Datum → Env → Round
round_of universe ts loaded globals = record { globals = globals; loaded = loaded_values ts loaded; universe = universe }

-- what a file has from its start on: its number, its functions and what it loads
abbrev pub own_of : ℕ → UniverseParts → List TopLevel → List Datum → Own Round Env
own_of number universe ts loaded = record { number = number; functions = functions_of ts; round = round_of universe ts loaded }

-- a file, as module `number` among these, with a value for each clause of its loads
unfoldable pub module_meaning : {S : Type 0} → Primitives S → Units Round → ℕ → UniverseParts → List TopLevel → List Datum → Action S Env
module_meaning m units number universe ts loaded = language.module_meaning m by_names units (own_of number universe ts loaded) (lines_from 0 ts) (first_globals ts loaded)

-- a frozen module: its globals are as they were when its evaluation ended
abbrev pub frozen_unit : UniverseParts → List TopLevel → List Datum → Env → TreeUnit Round
frozen_unit universe ts loaded globals = record { functions = functions_of ts; round = round_of universe ts loaded globals }
