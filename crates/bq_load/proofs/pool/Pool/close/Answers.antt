use denote.Param.Send.{sendable}
use Rattle.bq_load.proofs.Crossing.Modules.{loaded_send, loaded_sync, loading_sync}
use Rattle.bq_load.proofs.pool.Pool.close.Goals as goal

pub close-requires-send-E-Value : goal.close-requires-send-E-Value
close-requires-send-E-Value c κs = let l = loaded_send in search sendable depth 60 fits 20000

pub close-requires-sync-E-Value : goal.close-requires-sync-E-Value
close-requires-sync-E-Value c κs = let l = loaded_sync in search sendable depth 60 fits 20000

pub close-requires-sync-E : goal.close-requires-sync-E
close-requires-sync-E c κs = search (loading_sync, sendable) depth 60 fits 20000
