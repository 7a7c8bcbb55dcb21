use Rattle.std.proofs.Common.{◌∙◌, arith}
use Rattle.bq_load.proofs.ByName.{named_before}
use Rattle.bq_load.proofs.places.places_by_name.Goals as goal

pub loop-i-preserved : goal.loop-i-preserved
loop-i-preserved c =
    named_before c.args.names.now c.loop-i.i _ c.as_slice.result c.loop-i.places c.insert.new.self c.loop-i-test.true (omega arith) (c.as_slice.ensures ∙ c.index-names-i.is) c.in_ok-insert.ensures.updates c.loop-i.invariant
