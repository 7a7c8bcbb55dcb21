use Rattle.bq_run_commands.proofs.Once.{one_edit_each}
use Rattle.bq_run_commands.proofs.laws.each_path_has_one_edit.Goals as goal

pub returns : goal.returns
returns c = one_edit_each
