use Rattle.bq_load_front.proofs.LoadNames.{names_file, file_is_named}
use Rattle.bq_load_front.proofs.label_laws.loads_name_files.Goals as goal

pub returns : goal.returns
returns c = λ files packages own line text l.
    (names_file c.forms_of_a_label.ensures files packages own line text l, file_is_named c.forms_of_a_label.ensures files packages own line text l)
