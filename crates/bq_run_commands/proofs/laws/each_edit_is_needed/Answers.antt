use Rattle.bq_run_commands.proofs.Changed.{each_is_needed}
use Rattle.bq_run_commands.proofs.laws.each_edit_is_needed.Goals as goal

pub returns : goal.returns
returns c = each_is_needed
