use denote.Param.Send.{sendable}
use Rattle.bq_load.proofs.Crossing.Modules.{loaded_send, loaded_sync, loading_sync}
use Rattle.bq_load.proofs.pool.Pool.edges.Goals as goal

pub graph-requires-send-E-Value : goal.graph-requires-send-E-Value
graph-requires-send-E-Value c κs = let l = loaded_send in search sendable depth 60 fits 20000

pub graph-requires-sync-E-Value : goal.graph-requires-sync-E-Value
graph-requires-sync-E-Value c κs = let l = loaded_sync in search sendable depth 60 fits 20000

pub graph-requires-sync-E : goal.graph-requires-sync-E
graph-requires-sync-E c κs = search (loading_sync, sendable) depth 60 fits 20000
