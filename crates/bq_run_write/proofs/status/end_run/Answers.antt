use Rattle.bq_run_device.proofs.Transfers.{right_or_failed}
use Rattle.bq_run_write.proofs.status.end_run.Goals as goal

pub returns-clause-line : goal.returns-clause-line
returns-clause-line g c = right_or_failed c.write_status_line.result _ _ c.write_status_line.ensures.whole c.write_status_line.ensures.device
