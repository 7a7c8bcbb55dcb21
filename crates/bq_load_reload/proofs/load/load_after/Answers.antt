use Rattle.bq_load_reload.proofs.Along.{outcomes_taken}
use Rattle.bq_load_reload.proofs.load.load_after.Goals as goal

pub load_changed-requires-clause-past : goal.load_changed-requires-clause-past
load_changed-requires-clause-past g c _ _ =
    outcomes_taken c.args.before.now.workspace.now c.args.limits.steps c.args.before.now.kept.now c.requires.before c.in-Some.graph c.in-Some.ensures c.as_slice-outcomes.result.now c.as_slice-outcomes.ensures.value
