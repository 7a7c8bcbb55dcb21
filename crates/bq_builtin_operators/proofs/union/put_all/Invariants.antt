-- what is left to put gives what all of it gave
use Rattle.std.proofs.Common.{◌≡◌, drop}
use Rattle.bq_builtin_operators.specs.Union.{put_all}
use Rattle.bq_builtin_operators.proofs.union.put_all.Given as goal

abbrev pub invariant-loop-i : goal.invariant-loop-i
invariant-loop-i l = put_all l.dict (drop l.i l.more) ≡ put_all l.fn.dict l.more
