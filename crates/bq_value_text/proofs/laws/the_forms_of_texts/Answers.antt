use Rattle.bq_value_text.proofs.Forms.{repr_form}
use Rattle.bq_value_text.proofs.laws.the_forms_of_texts.Goals as goal

pub returns : goal.returns
returns c = repr_form
