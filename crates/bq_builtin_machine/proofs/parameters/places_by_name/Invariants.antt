-- the map has the parameters from here on
use Rattle.std.proofs.Common.{drop, map}
use Rattle.bq_builtin_machine.specs.Parameters.{parameter_of, HasPlaces}
use Rattle.bq_builtin_machine.proofs.parameters.places_by_name.Given as goal

abbrev pub invariant-loop-i : goal.invariant-loop-i
invariant-loop-i l = HasPlaces l.i (map parameter_of (drop l.i l.parameters)) l.places
