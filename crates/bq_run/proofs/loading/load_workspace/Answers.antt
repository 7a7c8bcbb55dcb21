use Rattle.bq_load_by_name.proofs.Outcomes.{workspaces_agree}
use Rattle.bq_run.proofs.loading.load_workspace.Goals as goal

pub returns : goal.returns
returns g c = (workspaces_agree c.args.workspace.now c.args.schema.now c.args.options.now.limits c.load_within.result).1 c.load_within.ensures
