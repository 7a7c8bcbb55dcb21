use Rattle.bq_query_function.proofs.Named.{adds_range, places_in_order, range_valid}
use Rattle.bq_query_function.proofs.pattern.add_beginning.Goals as goal

pub add_range-requires-clause-order : goal.add_range-requires-clause-order
add_range-requires-clause-order c = places_in_order c.args.targets.now c.args.start.now c.args.last c.in_ok-from.from c.in_ok-to.to c.in_ok-from.ensures c.in_ok-to.ensures

pub returns : goal.returns
returns c = record {
  adds = adds_range c.args.targets.now (c.args.start.now, c.args.last) c.args.rules c.in_ok-from.from c.in_ok-to.to c.args.marks.now.items c.add_range.new.marks.items c.in_ok-from.ensures c.in_ok-to.ensures c.add_range.ensures.long c.add_range.ensures.range;
  valid = range_valid c.args.targets.now (c.args.start.now, c.args.last) c.args.rules c.in_ok-from.from c.in_ok-to.to c.in_ok-from.ensures c.in_ok-to.ensures c.add_range.ensures.valid;
}
