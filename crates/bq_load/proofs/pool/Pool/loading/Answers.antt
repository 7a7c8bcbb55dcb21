use denote.Param.Send.{sendable}
use Rattle.bq_load.proofs.Crossing.Modules.{loaded_send, loaded_sync, loading_sync}
use Rattle.bq_load.proofs.pool.Pool.loading.Goals as goal

pub evaluator-requires-send-E-Value : goal.evaluator-requires-send-E-Value
evaluator-requires-send-E-Value c κs = let l = loaded_send in search sendable depth 60 fits 20000

pub evaluator-requires-sync-E-Value : goal.evaluator-requires-sync-E-Value
evaluator-requires-sync-E-Value c κs = let l = loaded_sync in search sendable depth 60 fits 20000

pub evaluator-requires-sync-E : goal.evaluator-requires-sync-E
evaluator-requires-sync-E c κs = search (loading_sync, sendable) depth 60 fits 20000
