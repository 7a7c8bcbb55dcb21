use Rattle.bq_value_text.proofs.Apart.{keys_apart}
use Rattle.bq_value_text.proofs.laws.keys_have_texts_of_their_own.Goals as goal

pub returns : goal.returns
returns c = keys_apart
