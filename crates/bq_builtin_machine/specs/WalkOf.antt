-- What the fields of a walk stand for.
use Rattle.std.specs.Prelude.{List, [], drop, map, reverse}
use Rattle.bq_value.specs.Contents.{Contents, items, pairs, rule}
use Rattle.bq_value.specs.ContentOf.{contents_of}
use Rattle.bq_value.specs.Datum.{Datum, int}
use Rattle.bq_value.specs.Pairs.{keys}
use Rattle.bq_builtin_machine.specs.declared.walk.Over.{Over}
use Rattle.bq_builtin_machine.specs.declared.walk.Over.TheVariants as over
use Rattle.bq_builtin_machine.specs.declared.walk.SharedElements.{SharedElements}
use Rattle.bq_builtin_machine.specs.declared.walk.SharedElements.TheVariants as shared

-- what a walk over this goes through
abbrev pub walked : Contents → List Datum
walked (items xs) = xs
walked (pairs ps) = keys ps
walked (rule c) = []

-- the elements that are still to come: what is shared, from the place `at` on, counted from 0
abbrev pub shared_left : SharedElements → List Datum
shared_left (shared.Values values at) = drop at values.value.items
shared_left (shared.Content body at) = drop at (walked (contents_of body.value))

-- the elements that are still to come, the next one first; a few values are held in reverse
abbrev pub walk_left : Over → List Datum
walk_left (over.Few values) = reverse values.items
walk_left (over.Range integers) = map int integers
walk_left (over.Shared s) = shared_left s
