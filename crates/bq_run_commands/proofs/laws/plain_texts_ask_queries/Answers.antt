use Rattle.bq_run_commands.proofs.PlainTexts.{plain_texts_ask_queries}
use Rattle.bq_run_commands.proofs.laws.plain_texts_ask_queries.Goals as goal

pub returns : goal.returns
returns c = plain_texts_ask_queries
