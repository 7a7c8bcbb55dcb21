use denote.Param.Send.{sendable}
use Rattle.bq_load.proofs.Crossing.Modules.{loaded_send, loaded_sync, loading_sync}
use Rattle.bq_load_reload.proofs.outcomes.all_outcomes.Goals as goal

pub open-requires-send-E-Value : goal.open-requires-send-E-Value
open-requires-send-E-Value g c κs = let l = loaded_send in search sendable depth 60 fits 20000

pub open-requires-sync-E : goal.open-requires-sync-E
open-requires-sync-E g c κs = search (loading_sync, sendable) depth 60 fits 20000

pub open-requires-sync-E-Value : goal.open-requires-sync-E-Value
open-requires-sync-E-Value g c κs = let l = loaded_sync in search sendable depth 60 fits 20000
