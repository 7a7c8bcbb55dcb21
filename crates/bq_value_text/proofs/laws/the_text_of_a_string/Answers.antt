use Rattle.bq_value_text.proofs.Plain.{text_of_string, repr_of_string, text_of_other}
use Rattle.bq_value_text.proofs.laws.the_text_of_a_string.Goals as goal

pub returns-clause-text : goal.returns-clause-text
returns-clause-text c = text_of_string

pub returns-clause-repr : goal.returns-clause-repr
returns-clause-repr c = repr_of_string

pub returns-clause-others : goal.returns-clause-others
returns-clause-others c = text_of_other
