-- what is left to look at has the answer
use Rattle.std.proofs.Common.{◌≡◌, drop}
use Rattle.bq_builtin_machine.specs.Machine.{looked_equal}
use Rattle.bq_builtin_operators.specs.Membership.{among}
use Rattle.bq_builtin_operators.proofs.membership.in_list.Given as goal

abbrev pub invariant-loop-other : goal.invariant-loop-other
invariant-loop-other l =
    among (looked_equal l.store) l.fn.steps l.value l.values ≡ among (looked_equal l.store) l.left l.value (drop l.other-index l.values)
