-- the tuples so far, with those that are left, are the tuples
use Rattle.std.proofs.Common.{◌≡◌, ◌++◌, drop, map}
use Rattle.bq_builtin_methods.specs.Dict.{pair_tuple}
use Rattle.bq_builtin_methods.proofs.dict.tuples_of.Given as goal

abbrev pub invariant-loop-i : goal.invariant-loop-i
invariant-loop-i l = l.tuples.items ++ map pair_tuple (drop l.i l.dict) ≡ map pair_tuple l.dict
