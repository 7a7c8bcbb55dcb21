use Rattle.std.proofs.Common.{◌≡◌, ◌+◌, ◌*◌, drop}
use Rattle.bq_parse.specs.Nested.{in_block, in_branches}
use Rattle.bq_parse.proofs.nested.+nested_def.Given as goal

abbrev pub decreases-nested_def : goal.decreases-nested_def
decreases-nested_def l = 3 * l.depth + 2

abbrev pub decreases-in_branches : goal.decreases-in_branches
decreases-in_branches l = 3 * l.depth + 1

abbrev pub decreases-in_block : goal.decreases-in_block
decreases-in_block l = 3 * l.depth

abbrev pub invariant-in_block-loop-statement : goal.invariant-in_block-loop-statement
invariant-in_block-loop-statement l = in_block l.depth l.inside l.block ≡ in_block l.depth l.inside (drop l.statement-index l.block)

abbrev pub invariant-in_branches-loop-branch : goal.invariant-in_branches-loop-branch
invariant-in_branches-loop-branch l = in_branches l.depth l.inside l.branches ≡ in_branches l.depth l.inside (drop l.branch-index l.branches)
