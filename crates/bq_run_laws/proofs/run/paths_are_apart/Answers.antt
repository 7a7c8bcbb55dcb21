use Rattle.bq_run_laws.proofs.Workspaces.{paths_are_apart}
use Rattle.bq_run_laws.proofs.run.paths_are_apart.Goals as goal

pub returns : goal.returns
returns c = paths_are_apart
