use Rattle.bq_value.proofs.tree.Tree.+push_words.Given as goal

abbrev pub decreases-push_words : goal.decreases-push_words
decreases-push_words l = l.height
