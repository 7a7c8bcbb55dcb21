use denote.Param.Send.{sendable}
use Rattle.bq_load.proofs.Crossing.Modules.{loaded_send, loaded_sync, loading_sync, watch_sync}
use Rattle.bq_load.proofs.pool.Pool.work.Goals as goal

pub work-requires-send-E-Value : goal.work-requires-send-E-Value
work-requires-send-E-Value g c κs within = let l = loaded_send in search sendable depth 60 fits 20000

pub work-requires-sync-E-Value : goal.work-requires-sync-E-Value
work-requires-sync-E-Value g c κs within = let l = loaded_sync in search sendable depth 60 fits 20000

pub work-requires-sync-E : goal.work-requires-sync-E
work-requires-sync-E g c κs within = search (loading_sync, sendable) depth 60 fits 20000

pub work-requires-sync-W : goal.work-requires-sync-W
work-requires-sync-W g c κs within = search (watch_sync, sendable) depth 60 fits 20000
