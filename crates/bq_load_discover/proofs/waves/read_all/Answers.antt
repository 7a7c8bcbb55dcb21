use denote.Param.Send.{sendable}
use Rattle.bq_load_discover.proofs.Crossing.Readings.{reading_send}
use Rattle.bq_load_discover.proofs.waves.read_all.Goals as goal

pub for_each_mut-requires-send-T : goal.for_each_mut-requires-send-T
for_each_mut-requires-send-T g c κs = let r = reading_send in search sendable depth 60 fits 20000
