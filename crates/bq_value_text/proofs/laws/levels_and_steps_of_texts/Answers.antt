use Rattle.bq_value_text.proofs.Deep.{last_level, next_level}
use Rattle.bq_value_text.proofs.laws.levels_and_steps_of_texts.Goals as goal

pub returns-clause-last : goal.returns-clause-last
returns-clause-last c = last_level

pub returns-clause-next : goal.returns-clause-next
returns-clause-next c = next_level
