use denote.Param.Send.{sendable}
use Rattle.bq_load.proofs.Crossing.Modules.{loaded_send, loaded_sync, loading_sync, watch_sync}
use Rattle.bq_load_reload.proofs.outcomes.pooled_outcomes.Goals as goal

pub evaluator-loading-requires-send-E-Value : goal.evaluator-loading-requires-send-E-Value
evaluator-loading-requires-send-E-Value g c κs = let l = loaded_send in search sendable depth 60 fits 20000

pub evaluator-loading-requires-sync-E : goal.evaluator-loading-requires-sync-E
evaluator-loading-requires-sync-E g c κs = search (loading_sync, sendable) depth 60 fits 20000

pub evaluator-loading-requires-sync-E-Value : goal.evaluator-loading-requires-sync-E-Value
evaluator-loading-requires-sync-E-Value g c κs = let l = loaded_sync in search sendable depth 60 fits 20000

pub outcomes_by_workers-requires-send-E-Value : goal.outcomes_by_workers-requires-send-E-Value
outcomes_by_workers-requires-send-E-Value g c κs within = let l = loaded_send in search sendable depth 60 fits 20000

pub outcomes_by_workers-requires-sync-E : goal.outcomes_by_workers-requires-sync-E
outcomes_by_workers-requires-sync-E g c κs within = search (loading_sync, sendable) depth 60 fits 20000

pub outcomes_by_workers-requires-sync-W : goal.outcomes_by_workers-requires-sync-W
outcomes_by_workers-requires-sync-W g c κs within = search (watch_sync, sendable) depth 60 fits 20000

pub outcomes_by_workers-requires-sync-E-Value : goal.outcomes_by_workers-requires-sync-E-Value
outcomes_by_workers-requires-sync-E-Value g c κs within = let l = loaded_sync in search sendable depth 60 fits 20000
