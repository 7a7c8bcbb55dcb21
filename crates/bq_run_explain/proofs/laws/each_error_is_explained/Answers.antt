use Rattle.bq_run_explain.proofs.Explained.{each_error}
use Rattle.bq_run_explain.proofs.laws.each_error_is_explained.Goals as goal

pub returns : goal.returns
returns c = each_error
