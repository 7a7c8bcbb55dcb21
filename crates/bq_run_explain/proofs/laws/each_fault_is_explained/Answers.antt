use Rattle.bq_run_explain.proofs.Explained.{each_fault}
use Rattle.bq_run_explain.proofs.laws.each_fault_is_explained.Goals as goal

pub returns : goal.returns
returns c = each_fault
