use denote.Param.Send.{sendable}
use Rattle.bq_load_discover.proofs.Crossing.Readings.{module_send}
use Rattle.bq_load_discover.proofs.load_graph.LoadGraph.into_parts_by.Goals as goal

pub for_each_mut-requires-send-T : goal.for_each_mut-requires-send-T
for_each_mut-requires-send-T g c κs within = let m = module_send in search sendable depth 60 fits 20000
