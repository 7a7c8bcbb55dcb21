-- The modules of a program.
use Rattle.bq_eval_spec.specs.Frame.{Surroundings}
use Rattle.bq_eval_spec.specs.Calls as language
use Rattle.bq_eval_spec.specs.Slots.{surroundings_of}
use Rattle.bq_eval_rules.specs.declared.units.TreeUnit.{TreeUnit}
use Rattle.bq_eval_rules.specs.Round.{globals_of}

-- a module of the code
abbrev pub unit_of : TreeUnit → language.TreeUnit Surroundings
unit_of u = record { functions = u.functions.now; round = surroundings_of u.loaded.now (globals_of u.globals) }
