use Rattle.std.proofs.Common.{◌≡◌, ◌+◌, ◌≤◌, length}
use Rattle.bq_query_function.specs.Calls.{mandatory}
use Rattle.bq_query_function.proofs.signature.QuerySignature.mandatory.Given as goal

abbrev pub invariant-loop-kinds : goal.invariant-loop-kinds
invariant-loop-kinds l = record {
  counted : l.count + mandatory l.kinds ≡ mandatory l.self.parameters.now;
  few : l.count + length l.kinds ≤ length l.self.parameters.now;
}

abbrev pub decreases-loop-kinds : goal.decreases-loop-kinds
decreases-loop-kinds l = length l.kinds
