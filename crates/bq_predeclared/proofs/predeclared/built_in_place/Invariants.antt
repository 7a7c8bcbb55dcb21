use Rattle.std.proofs.Common.{◌≡◌, ◌+◌, ◌≤◌, map, length}
use Rattle.bq_predeclared.specs.Predeclared.{built_in_names, place_from}
use Rattle.bq_predeclared.proofs.predeclared.built_in_place.Given as goal

-- what is left decides
abbrev pub invariant-loop-names : goal.invariant-loop-names
invariant-loop-names l = (place_from l.place l.name (map (λ own. own.now) l.names) ≡ place_from 0 l.name built_in_names) × (l.place + length l.names ≤ 4294967295)

abbrev pub decreases-loop-names : goal.decreases-loop-names
decreases-loop-names l = length l.names
