-- the pairs so far, with those that are left
use Rattle.std.proofs.Common.{◌≡◌, ◌++◌, drop}
use Rattle.bq_builtin_methods.proofs.pairs_given.push_pairs.Given as goal

abbrev pub invariant-loop-i : goal.invariant-loop-i
invariant-loop-i l = l.pairs.items ++ drop l.i l.dict ≡ l.fn.pairs.items ++ l.dict
