use denote.Param.Send.{sendable}
use Rattle.bq_load.proofs.Crossing.Modules.{loaded_send, loaded_sync, loading_sync, watch_sync}
use Rattle.bq_load_reload.proofs.outcomes.changed_outcomes.Goals as goal

pub completed-requires-send-E-Value : goal.completed-requires-send-E-Value
completed-requires-send-E-Value g c κs within = let l = loaded_send in search sendable depth 60 fits 20000

pub completed-requires-sync-E-Value : goal.completed-requires-sync-E-Value
completed-requires-sync-E-Value g c κs within = let l = loaded_sync in search sendable depth 60 fits 20000

pub completed-requires-sync-E : goal.completed-requires-sync-E
completed-requires-sync-E g c κs within = search (loading_sync, sendable) depth 60 fits 20000

pub completed-requires-sync-W : goal.completed-requires-sync-W
completed-requires-sync-W g c κs within = search (watch_sync, sendable) depth 60 fits 20000

pub completed-requires-clause-found : goal.completed-requires-clause-found
completed-requires-clause-found g c κs within = c.requires.found
