-- the map has the names from here on
use Rattle.std.proofs.Common.{drop}
use Rattle.bq_load.specs.Places.{HasPlaces}
use Rattle.bq_load.proofs.places.places_by_name.Given as goal

abbrev pub invariant-loop-i : goal.invariant-loop-i
invariant-loop-i l = HasPlaces l.i (drop l.i l.names) l.places
