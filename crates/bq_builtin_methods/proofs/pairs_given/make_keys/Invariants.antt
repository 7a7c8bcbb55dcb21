-- the pairs that are left decide
use Rattle.std.proofs.Common.{◌≡◌}
use Rattle.bq_builtin_methods.specs.PairsGiven.{make_keys}
use Rattle.bq_builtin_methods.proofs.pairs_given.make_keys.Given as goal

abbrev pub invariant-loop-pair : goal.invariant-loop-pair
invariant-loop-pair l = make_keys l.pair-iterator.rest.items l.made.items l.machine ≡ make_keys l.fn.unkeyed.items l.fn.made.items l.fn.machine
