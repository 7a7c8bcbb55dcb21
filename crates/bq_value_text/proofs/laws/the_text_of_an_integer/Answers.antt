use Rattle.bq_value_text.proofs.Plain.{repr_of_int}
use Rattle.bq_value_text.proofs.laws.the_text_of_an_integer.Goals as goal

pub returns : goal.returns
returns c = repr_of_int
