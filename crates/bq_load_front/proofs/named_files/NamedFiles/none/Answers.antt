use Rattle.bq_load_front.proofs.Places.{none_named}
use Rattle.bq_load_front.proofs.named_files.NamedFiles.none.Goals as goal

pub invariant_of-result : goal.invariant_of-result
invariant_of-result c = none_named c.new.result.items c.new-2.result.items c.new.ensures.items c.new-2.ensures.items
