use denote.Param.Send.{sendable}
use Rattle.bq_load.proofs.Crossing.Modules.{loaded_send, loaded_sync, loading_sync}
use Rattle.bq_load.proofs.load.modules_one_thread.Goals as goal

pub outcomes_one_thread-requires-send-E-Value : goal.outcomes_one_thread-requires-send-E-Value
outcomes_one_thread-requires-send-E-Value c κs = let l = loaded_send in search sendable depth 60 fits 20000

pub outcomes_one_thread-requires-sync-E-Value : goal.outcomes_one_thread-requires-sync-E-Value
outcomes_one_thread-requires-sync-E-Value c κs = let l = loaded_sync in search sendable depth 60 fits 20000

pub outcomes_one_thread-requires-sync-E : goal.outcomes_one_thread-requires-sync-E
outcomes_one_thread-requires-sync-E c κs = search (loading_sync, sendable) depth 60 fits 20000
