use Rattle.std.proofs.lemmas.List.Elements.{All-pop}
use Rattle.bq_load_discover.specs.Waves.{IsReading}
use Rattle.bq_load_discover.proofs.Readings.{still_read}
use Rattle.bq_load_discover.proofs.exploration.Exploration.take_all.Goals as goal

pub loop-preserved : goal.loop-preserved
loop-preserved c =
    let inputs = c.args.inputs.now in
    let ls = c.loop.self.found in
    let popped = All-pop (IsReading inputs ls) c.loop.readings.items c.pop.new.self.items c.pop.result c.pop.ensures.items c.loop.invariant.readings in record {
      explores = c.in_ok-take.ensures.explores inputs c.loop.invariant.explores popped.1;
      readings = still_read inputs ls c.take.new.self.found c.in_ok-take.ensures.grows c.pop.new.self.items popped.0;
    }
