use Rattle.std.proofs.Common.{◌≡◌, ◌++◌, drop}
use Rattle.bq_builtin_augment.proofs.augmented.pairs_of.Given as goal

abbrev pub invariant-loop-i : goal.invariant-loop-i
invariant-loop-i l = l.pairs.items ++ drop l.i l.dict ≡ l.dict
