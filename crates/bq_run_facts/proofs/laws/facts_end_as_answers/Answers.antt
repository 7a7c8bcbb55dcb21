use Rattle.bq_run_facts.proofs.Answers.{ends_as_answer}
use Rattle.bq_run_facts.proofs.laws.facts_end_as_answers.Goals as goal

pub returns : goal.returns
returns c = ends_as_answer
