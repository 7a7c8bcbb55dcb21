use Rattle.std.proofs.Common.{take}
use Rattle.bq_query_function.specs.Words.{Adds}
use Rattle.bq_query_function.specs.Labels.{is_among}
use Rattle.bq_query_function.proofs.labels.add_labels.Given as goal

abbrev pub invariant-loop-label : goal.invariant-loop-label
invariant-loop-label l = Adds (is_among (take l.label-index l.labels)) l.targets l.initial.marks.items l.marks.items
