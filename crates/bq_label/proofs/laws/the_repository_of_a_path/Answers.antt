use Rattle.bq_label.proofs.LabelFiles.{path_in_words, path_from_words}
use Rattle.bq_label.proofs.laws.the_repository_of_a_path.Goals as goal

pub returns : goal.returns
returns c = λ path repo rest. (path_in_words path repo rest, path_from_words path repo rest)
