use Rattle.std.proofs.Common.{map}
use denote.Param.Send.{sendable}
use Rattle.bq_load.proofs.Crossing.Modules.{loaded_send, loaded_sync, loading_sync}
use Rattle.bq_load.specs.Loading.{loading_in, loading_of}
use Rattle.bq_load.specs.Views.{module_view, failed_view}
use Rattle.bq_load_order.specs.Again.{had}
use Rattle.bq_load_order.specs.SharedOutcomes.{shown, slot}
use Rattle.bq_load_reload.proofs.Along.{refilled, same_unchanged}
use Rattle.bq_load_reload.proofs.outcomes.kept_after.Goals as goal

pub kept_outcomes-requires-send-E-Value : goal.kept_outcomes-requires-send-E-Value
kept_outcomes-requires-send-E-Value c κs = let l = loaded_send in search sendable depth 60 fits 20000

pub kept_outcomes-requires-sync-E : goal.kept_outcomes-requires-sync-E
kept_outcomes-requires-sync-E c κs = search (loading_sync, sendable) depth 60 fits 20000

pub kept_outcomes-requires-sync-E-Value : goal.kept_outcomes-requires-sync-E-Value
kept_outcomes-requires-sync-E-Value c κs = let l = loaded_sync in search sendable depth 60 fits 20000

pub kept_outcomes-requires-clause-unchanged : goal.kept_outcomes-requires-clause-unchanged
kept_outcomes-requires-clause-unchanged c κs =
    same_unchanged (had (map (shown module_view failed_view) c.args.past.now.outcomes.now)) c.args.past.now.edges.now (loading_of c.in_ok-loading.loading)
    (loading_in c.args.sources.now.workspace.now c.args.sources.now.schema.now c.args.limits.steps c.args.graph.now) c.args.was.now c.in_ok-loading.ensures.decides c.requires.unchanged

pub returns : goal.returns
returns c =
    refilled (loading_of c.in_ok-loading.loading) (loading_in c.args.sources.now.workspace.now c.args.sources.now.schema.now c.args.limits.steps c.args.graph.now) c.edges.result.now c.args.graph.now.edges
    (map (slot module_view failed_view) c.in_ok-found.found.items) c.in_ok-loading.ensures.decides c.edges.ensures.value c.in_ok-found.ensures
