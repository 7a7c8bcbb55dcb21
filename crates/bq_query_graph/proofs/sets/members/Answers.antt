use Rattle.std.proofs.Common.{arith}
use Rattle.bq_query_graph.proofs.Listings.{listed_all}
use Rattle.bq_query_graph.proofs.sets.members.Goals as goal

pub returns-clause-members : goal.returns-clause-members
returns-clause-members c = listed_all c.args.marks.now c.loop-from.from c.loop-from.listed.items (omega (arith, c.loop-from-test.false)) c.loop-from.invariant.listed
