-- the pairs that are left decide
use Rattle.std.proofs.Common.{◌≡◌, drop}
use Rattle.bq_eval.specs.Passing.{with_pairs}
use Rattle.bq_eval.proofs.passing.push_pairs.Given as goal

abbrev pub invariant-loop-i : goal.invariant-loop-i
invariant-loop-i l = with_pairs l.args (drop l.i l.dict) ≡ with_pairs l.fn.args l.dict
