use Rattle.std.proofs.Common.{◌≡◌, take}
use Rattle.std.specs.List.{filter_map}
use Rattle.bq_load_discover.specs.Edges.{number_in}
use Rattle.bq_load_discover.proofs.edges.row.Given as goal

abbrev pub invariant-loop-label : goal.invariant-loop-label
invariant-loop-label l = l.row.items ≡ filter_map (number_in l.numbers) (take l.label-index l.labels)
