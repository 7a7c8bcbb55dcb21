use Rattle.std.proofs.Common.{◌≡◌, bytes_eq, length}
use Rattle.std.specs.List.{find}
use Rattle.bq_predeclared.specs.AttributeType.{type_name}
use Rattle.bq_predeclared.proofs.attribute_type.type_among.Given as goal

abbrev pub invariant-loop-types : goal.invariant-loop-types
invariant-loop-types l = find (λ k. bytes_eq l.name (type_name k)) l.types ≡ find (λ k. bytes_eq l.name (type_name k)) l.initial.types

abbrev pub decreases-loop-types : goal.decreases-loop-types
decreases-loop-types l = length l.types
