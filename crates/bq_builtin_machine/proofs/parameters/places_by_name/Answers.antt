use Rattle.std.proofs.Common.{arith}
use Rattle.bq_builtin_machine.proofs.Places.{named_at}
use Rattle.bq_builtin_machine.proofs.parameters.places_by_name.Goals as goal

pub loop-i-preserved : goal.loop-i-preserved
loop-i-preserved c = named_at c.args.parameters.now c.loop-i.i _ _ c.loop-i.places c.insert.new.self c.loop-i-test.true (omega arith) c.in-Some.is c.in_ok-insert.ensures.updates c.loop-i.invariant
