use Rattle.std.proofs.Common.{◌≡◌, length, map, drop}
use Rattle.bq_query_check.specs.Formula.{Formula, step_of, chained}
use Rattle.bq_query.specs.Faults.{Has}
use Rattle.bq_query.proofs.Formulas.{SoFar}
use Rattle.bq_query.proofs.sets.+sets.Given as goal

abbrev pub invariant-chain_of-loop-operation : goal.invariant-chain_of-loop-operation
invariant-chain_of-loop-operation l = record {
  so_far : (x : Formula)
      → Has l.graph l.fn.bound x l.initial.set.items
      → SoFar l.graph l.fn.bound (chained x (map step_of l.operations)) (map step_of (drop l.operation-index l.operations)) l.set.items;
  kept : l.bound ≡ l.fn.bound;
  long : length l.set.items ≡ length l.graph.targets;
}
