use Rattle.bq_run_commands.proofs.ReadBack.{read_back}
use Rattle.bq_run_commands.proofs.laws.commands_are_read_back.Goals as goal

pub returns : goal.returns
returns c = read_back
