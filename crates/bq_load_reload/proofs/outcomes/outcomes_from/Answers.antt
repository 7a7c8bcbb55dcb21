use Rattle.std.proofs.Common.{map, sym}
use Rattle.bq_load.specs.Loading.{loading_in, loading_of}
use Rattle.bq_load.specs.Views.{module_view, failed_view}
use Rattle.bq_load_order.specs.SharedOutcomes.{slot}
use Rattle.bq_load_reload.proofs.Along.{refilled}
use Rattle.bq_load_reload.proofs.outcomes.outcomes_from.Goals as goal

pub changed_outcomes-requires-clause-found : goal.changed_outcomes-requires-clause-found
changed_outcomes-requires-clause-found g c κs within =
    refilled (loading_in c.args.sources.now.workspace.now c.args.sources.now.schema.now c.args.limits.steps c.args.graph.now) (loading_of c.in_ok-loading.loading) c.args.graph.now.edges c.edges-edges.result.now
    (map (slot module_view failed_view) c.args.found.items) (sym c.in_ok-loading.ensures.decides) (sym c.edges-edges.ensures.value) c.requires.found
