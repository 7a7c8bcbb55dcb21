-- The trie that a node stands for.
use Rattle.bq_value.specs.Tries.{Trie, bare, leaf, fork}
use Rattle.bq_value.specs.declared.tree.TreeNode.{TreeNode}
use Rattle.bq_value.specs.declared.tree.TreeNode.TheVariants as node

-- the trie of a node: bare, a leaf with its module, or a fork with its keys, words and halves
abbrev pub trie_of : TreeNode → Trie
trie_of node.Bare = bare
trie_of (node.Leaf c) = leaf c
trie_of (node.Fork k halves) = fork k halves.value.words.items halves.value.left halves.value.right
