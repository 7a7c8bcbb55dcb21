-- That a tree within a tree has fewer nodes.
use Rattle.std.specs.Prelude.{◌≤◌}
use Rattle.std.proofs.Common.{arith}
use Rattle.bq_value.specs.Tries.{nodes}
use Rattle.bq_value.specs.TrieOf.{trie_of}
use Rattle.bq_value.specs.declared.tree.TreeNode.{TreeNode}
use Rattle.bq_value.specs.declared.tree.TreeNode.TheVariants as node
use Rattle.bq_value.specs.declared.tree.Tree.TheDeep.{deep-TreeNode}

-- each tree right within a node has fewer nodes than the trie that the node stands for
pub deep_le-nodes : (n : TreeNode) → deep-TreeNode n ≤ nodes (trie_of n)
deep_le-nodes node.Bare = omega arith
deep_le-nodes (node.Leaf c) = omega arith
deep_le-nodes (node.Fork k halves) = omega arith
