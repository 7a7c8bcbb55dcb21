use Rattle.bq_run_laws.proofs.Workspaces.{gibibyte_at_most}
use Rattle.bq_run_laws.proofs.run.bundles_have_a_gibibyte_at_most.Goals as goal

pub returns : goal.returns
returns c = gibibyte_at_most
