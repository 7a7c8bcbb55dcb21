use Rattle.std.proofs.Common.{refl}
use Rattle.bq_load_reload.proofs.Along.{is_kept}
use Rattle.bq_load_reload.proofs.load.gathered.Goals as goal

pub returns-clause-kept : goal.returns-clause-kept
returns-clause-kept c =
    is_kept c.args.sources.now.workspace.now c.args.sources.now.schema.now c.args.limits c.args.graph (record { graph = c.of.result; limits = c.args.limits; outcomes = c.args.outcomes }) c.requires.schema c.requires.graph c.edges-edges.ensures.valid
    c.requires.fits c.of.ensures refl c.requires.outcomes
