use Rattle.std.proofs.Common.{map}
use Rattle.bq_load.specs.Views.{module_view, failed_view}
use Rattle.bq_load_order.specs.SharedOutcomes.{slot}
use Rattle.bq_load_reload.proofs.Along.{filled_in, fits_in, loaded_in, read_in}
use Rattle.bq_load_reload.proofs.load.evaluated.Goals as goal

pub outcomes_from-requires-clause-graph : goal.outcomes_from-requires-clause-graph
outcomes_from-requires-clause-graph g c κs within = read_in c.args.sources.now.workspace.now c.args.sources.now.schema.now c.args.limits c.in_ok-whole.whole c.args.graph c.in_ok-whole.ensures c.requires.graph

pub outcomes_from-requires-clause-found : goal.outcomes_from-requires-clause-found
outcomes_from-requires-clause-found g c κs within =
    filled_in c.args.sources.now.workspace.now c.args.sources.now.schema.now c.args.limits c.in_ok-whole.whole c.args.graph c.in_ok-whole.ensures (map (slot module_view failed_view) c.args.found.items) c.requires.found

pub gathered-requires-clause-graph : goal.gathered-requires-clause-graph
gathered-requires-clause-graph g c = read_in c.args.sources.now.workspace.now c.args.sources.now.schema.now c.args.limits c.in_ok-whole.whole c.args.graph c.in_ok-whole.ensures c.requires.graph

pub gathered-requires-clause-fits : goal.gathered-requires-clause-fits
gathered-requires-clause-fits g c = fits_in c.args.sources.now.workspace.now c.args.sources.now.schema.now c.args.limits c.in_ok-whole.whole c.args.graph c.in_ok-whole.ensures c.requires.fits

pub returns-clause-loaded : goal.returns-clause-loaded
returns-clause-loaded g c =
    loaded_in c.args.sources.now.workspace.now c.args.sources.now.schema.now c.args.limits c.in_ok-whole.whole c.args.graph c.in_ok-whole.ensures c.in_ok-reloaded.reloaded.loaded c.in_ok-reloaded.ensures.loaded
