use Rattle.std.proofs.Common.{◌≡◌, length, map}
use Rattle.std.specs.Map.{lookup}
use Rattle.std.specs.Str.{bytes_eq}
use Rattle.bq_value_datum.proofs.common_attributes.find.Given as goal

abbrev pub invariant-loop-table : goal.invariant-loop-table
invariant-loop-table l = lookup (bytes_eq l.name) (map (λ e. (e.0.now, e.1)) l.table) ≡ lookup (bytes_eq l.name) (map (λ e. (e.0.now, e.1)) l.initial.table)

abbrev pub decreases-loop-table : goal.decreases-loop-table
decreases-loop-table l = length l.table
