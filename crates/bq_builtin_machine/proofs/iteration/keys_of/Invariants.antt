-- the keys so far, with those that are left, are the keys
use Rattle.std.proofs.Common.{◌≡◌, ◌++◌, drop}
use Rattle.bq_value.specs.Pairs.{keys}
use Rattle.bq_builtin_machine.proofs.iteration.keys_of.Given as goal

abbrev pub invariant-loop-i : goal.invariant-loop-i
invariant-loop-i l = l.shares.items ++ keys (drop l.i l.dict) ≡ keys l.dict
