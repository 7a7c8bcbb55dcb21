use Rattle.std.proofs.Common.{map, take}
use Rattle.std.specs.List.{AllByRecursion}
use Rattle.std.specs.Iterator.Adapters.{zip_first, zip_second}
use Rattle.std.specs.Slice.Iter.{iter_rest}
use Rattle.bq_query_check.specs.Verdict.{parts, operation_part}
use Rattle.bq_query_check.specs.Call.{given}
use Rattle.bq_query_check.specs.Checked.{Holds}
use Rattle.bq_query_check.specs.Formula.{step_of}
use Rattle.bq_query_check.specs.FormulaOf.{AreStepsOf}
use Rattle.bq_query_check.proofs.Left.{AreLeft}
use Rattle.bq_query_check.proofs.trees.+query.Given as goal

abbrev pub invariant-steps-loop-operation : goal.invariant-steps-loop-operation
invariant-steps-loop-operation l = record {
  hold : AllByRecursion Holds (parts (map operation_part (take l.operation-index l.operations)) l.names);
  read : AreStepsOf l.names (take l.operation-index l.operations) (map step_of l.steps);
}

abbrev pub invariant-arguments-loop-kind : goal.invariant-arguments-loop-kind
invariant-arguments-loop-kind l = AreLeft l.names l.kinds l.queries (iter_rest (zip_first l.kind-iterator)) (iter_rest (zip_second l.kind-iterator)) (given l.read)
