use Rattle.bq_run_commands.proofs.Changed.{makes_the_files}
use Rattle.bq_run_commands.proofs.laws.edits_make_the_files.Goals as goal

pub returns : goal.returns
returns c = makes_the_files
