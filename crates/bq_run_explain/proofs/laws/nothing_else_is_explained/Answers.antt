use Rattle.bq_run_explain.proofs.Explained.{nothing_else}
use Rattle.bq_run_explain.proofs.laws.nothing_else_is_explained.Goals as goal

pub returns : goal.returns
returns c = nothing_else
