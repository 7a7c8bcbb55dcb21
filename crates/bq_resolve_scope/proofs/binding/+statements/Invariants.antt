use Rattle.std.proofs.Common.{◌≡◌, ◌+◌, ◌*◌, drop}
use Rattle.bq_resolve_scope.specs.Names.{with_each, with_stmt_to, with_branch}
use Rattle.bq_resolve_scope.proofs.binding.+statements.Given as goal

abbrev pub invariant-add_block_to-loop-statement : goal.invariant-add_block_to-loop-statement
invariant-add_block_to-loop-statement l = with_each (with_stmt_to l.depth) l.names (drop l.statement-index l.block) ≡ with_each (with_stmt_to l.depth) l.fn.names l.block

abbrev pub invariant-add_branches_to-loop-branch : goal.invariant-add_branches_to-loop-branch
invariant-add_branches_to-loop-branch l = with_each (with_branch (with_stmt_to l.depth)) l.names (drop l.branch-index l.branches) ≡ with_each (with_branch (with_stmt_to l.depth)) l.fn.names l.branches

abbrev pub decreases-add_block_to : goal.decreases-add_block_to
decreases-add_block_to l = 4 * l.depth + 1

abbrev pub decreases-add_branches_to : goal.decreases-add_branches_to
decreases-add_branches_to l = 4 * l.depth + 2

abbrev pub decreases-add_stmt_to : goal.decreases-add_stmt_to
decreases-add_stmt_to l = 4 * l.depth

abbrev pub decreases-add_if_to : goal.decreases-add_if_to
decreases-add_if_to l = 4 * l.depth + 3
