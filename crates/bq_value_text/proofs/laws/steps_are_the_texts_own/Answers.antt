use Rattle.bq_value_text.proofs.Counting.{repr_takes, text_takes}
use Rattle.bq_value_text.proofs.laws.steps_are_the_texts_own.Goals as goal

pub returns-clause-repr : goal.returns-clause-repr
returns-clause-repr c = repr_takes

pub returns-clause-text : goal.returns-clause-text
returns-clause-text c = text_takes
