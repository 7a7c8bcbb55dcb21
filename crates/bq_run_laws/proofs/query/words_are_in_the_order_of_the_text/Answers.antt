use Rattle.bq_run_laws.proofs.Queries.InText.{words_in_order}
use Rattle.bq_run_laws.proofs.query.words_are_in_the_order_of_the_text.Goals as goal

pub returns : goal.returns
returns c = words_in_order
