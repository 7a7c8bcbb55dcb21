-- what is left to put gives what all of it gave
use Rattle.std.proofs.Common.{◌≡◌, drop}
use Rattle.bq_builtin_operators.specs.Union.{put_all}
use Rattle.bq_builtin_operators.proofs.in_place.put_each.Given as goal

abbrev pub invariant-loop-pair : goal.invariant-loop-pair
invariant-loop-pair l = put_all l.dict (drop l.pair-index l.more) ≡ put_all l.fn.dict l.more
