use Rattle.std.proofs.Common.{◌≡◌, length}
use Rattle.bq_query_function.specs.Words.{Range}
use Rattle.bq_query_function.specs.Beginnings.{AreValid, is_wanted}
use Rattle.bq_query_function.proofs.pattern.add_range.Given as goal

abbrev pub invariant-loop-at : goal.invariant-loop-at
invariant-loop-at l = record { long : length l.marks.items ≡ length l.targets; range : Range (is_wanted l.rules) l.targets l.initial.at l.at l.initial.marks.items l.marks.items; valid : AreValid (is_wanted l.rules) l.targets l.initial.at l.at }
