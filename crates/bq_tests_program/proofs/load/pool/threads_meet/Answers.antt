-- A pool may be shared by threads, and its seats may go to them.
use denote.Ref.{NamedLft}
use denote.Param.Send.{IsSync, sendable}
use Rattle.std.proofs.Crossing.{crosses}
use Rattle.bq_load_workers.proofs.pool.WorkerPool.TheSendSync as Shared
use Rattle.bq_load_workers.proofs.pool.WorkerSeat.TheSendSync as Seat
use Rattle.bq_load.specs.contracts.pool.Pool as Pool
use Rattle.bq_load.proofs.Crossing.Modules.{loaded_send, loaded_sync, loading_sync}
use Rattle.bq_tests_program.proofs.load.pool.threads_meet.Goals as goal

pool_sync : (a : NamedLft) → IsSync (Pool.the_row a)
pool_sync a = let l = loading_sync a in let s = loaded_send in let y = loaded_sync in search (Shared.the_field_sync, crosses, sendable) depth 60 fits 20000

pub work_at_all-requires-sync-P : goal.work_at_all-requires-sync-P
work_at_all-requires-sync-P g c κs within = search (pool_sync, sendable) depth 60 fits 20000

pub work_at_all-requires-send-P-Seat : goal.work_at_all-requires-send-P-Seat
work_at_all-requires-send-P-Seat g c κs within = let s = loaded_send in let y = loaded_sync in search (Seat.the_send, Seat.the_field_send, crosses, sendable) depth 60 fits 20000
