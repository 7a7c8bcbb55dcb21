-- What the fields of a walk stand for.
use Rattle.std.specs.Prelude.{List, map, reverse}
use Rattle.bq_value.specs.Datum.{Datum, int}
use Rattle.bq_builtin_machine.specs.declared.iteration.Left.{Left}
use Rattle.bq_builtin_machine.specs.declared.iteration.Left.TheVariants as left

-- the elements that are still to come, the next one first; values are held in reverse
abbrev pub elements_left : Left → List Datum
elements_left (left.Values values) = reverse values.items
elements_left (left.Range integers) = map int integers
