use Rattle.bq_label.proofs.LabelFiles.{file_in_words}
use Rattle.bq_label.proofs.laws.a_label_names_a_file_of_its_repository.Goals as goal

pub returns : goal.returns
returns c = file_in_words
