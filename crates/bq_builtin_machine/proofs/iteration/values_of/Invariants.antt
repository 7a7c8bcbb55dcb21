-- the values so far, with those that are left, are the values
use Rattle.std.proofs.Common.{◌≡◌, ◌++◌, drop, map}
use Rattle.bq_builtin_machine.proofs.iteration.values_of.Given as goal

abbrev pub invariant-loop-i : goal.invariant-loop-i
invariant-loop-i l = l.shares.items ++ map (λ p. p.1) (drop l.i l.dict) ≡ map (λ p. p.1) l.dict
