use Rattle.std.proofs.Common.{◌≡◌, take, drop}
use Rattle.bq_query_function.specs.Missing.{first_missing}
use Rattle.bq_query_function.specs.Words.{Adds, one_names}
use Rattle.bq_query_function.proofs.set.targets_named.Given as goal

abbrev pub invariant-loop-pattern : goal.invariant-loop-pattern
invariant-loop-pattern l = record {
  set : Adds (one_names (take l.pattern-index l.patterns)) l.targets l.initial.marks.items l.marks.items;
  fault : first_missing l.packages l.targets (drop l.pattern-index l.patterns) ≡ first_missing l.packages l.targets l.patterns;
}
