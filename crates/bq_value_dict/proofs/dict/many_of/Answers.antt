use Rattle.std.specs.Map.Iter.{deref_pair}
use Rattle.bq_value_dict.proofs.Copies.{next_copied}
use Rattle.bq_value_dict.proofs.dict.many_of.Goals as goal

pub loop-i-preserved : goal.loop-i-preserved
loop-i-preserved c =
    let step = next_copied c.args.few.now c.loop-i.i (deref_pair c.pair.result) c.has_no_key_twice.ensures c.pair.ensures in
    cc (step, c.in_ok-insert.ensures.after, c.in_ok-share.ensures, c.in_ok-share-2.ensures, c.loop-i.invariant)
