-- what is left to visit has the answer
use Rattle.std.proofs.Common.{◌≡◌, ◌+◌, ◌*◌, drop}
use Rattle.bq_value.specs.KeyWalk.{walked_at, all_walked}
use Rattle.bq_value.proofs.key_walk.+walk.Given as goal

abbrev pub decreases-walk : goal.decreases-walk
decreases-walk l = 2 * l.levels

abbrev pub decreases-walk_all : goal.decreases-walk_all
decreases-walk_all l = 2 * l.levels + 1

abbrev pub invariant-walk_all-loop-value : goal.invariant-walk_all-loop-value
invariant-walk_all-loop-value l = all_walked (walked_at l.levels) l.fn.steps l.values ≡ all_walked (walked_at l.levels) l.left (drop l.value-index l.values)
