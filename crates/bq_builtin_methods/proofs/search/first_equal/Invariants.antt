-- the values that are left decide
use Rattle.std.proofs.Common.{◌≡◌, ◌+◌, drop}
use Rattle.bq_builtin_methods.specs.Search.{first_equal}
use Rattle.bq_builtin_methods.proofs.search.first_equal.Given as goal

abbrev pub invariant-loop-i : goal.invariant-loop-i
invariant-loop-i l = first_equal l.store l.fn.steps l.at l.value l.values ≡ first_equal l.store l.left (l.at + l.i) l.value (drop l.i l.values)
