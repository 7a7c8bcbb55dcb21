use Rattle.bq_parse_laws.proofs.Left.{told}
use Rattle.bq_parse_laws.proofs.trees.what_is_left_out_is_in_the_tree.Goals as goal

pub returns : goal.returns
returns c = λ depth ts x p h. told depth ts x p h
