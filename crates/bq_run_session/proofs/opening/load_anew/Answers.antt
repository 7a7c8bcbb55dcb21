use Rattle.bq_load_by_name.proofs.Outcomes.{workspaces_agree}
use Rattle.bq_load_reload.specs.Kept.{loaded_by}
use Rattle.bq_run_session.proofs.opening.load_anew.Goals as goal

pub returns-clause-loads : goal.returns-clause-loads
returns-clause-loads g c = (workspaces_agree c.args.workspace.now c.args.schema.now c.args.options.now.limits (loaded_by c.load_again.result)).1 c.load_again.ensures.loads
