use Rattle.std.proofs.Common.{◌∙◌, ◌+◌, arith}
use Rattle.bq_query_graph.specs.Marks.{Step, Both}
use Rattle.bq_query_graph.proofs.Spreads.{stands_start, stands_next, closure_end}
use Rattle.bq_query_graph.proofs.search.closure.Goals as goal

pub loop-head-init : goal.loop-head-init
loop-head-init c = record {
  long = c.in_ok-marks.ensures.0 ∙ c.requires.seeds;
  stands = (0, stands_start (Step c.args.graph.now c.args.allowed.now) (Both c.args.seeds.now c.args.allowed.now) _ c.in_ok-marks.marks.items c.deref.result.now c.in_ok-queue.queue.items c.deref.ensures.value c.in_ok-queue.ensures.members c.in_ok-marks.ensures);
}

pub returns : goal.returns
returns c = (
  c.loop-head.invariant.long,
  closure_end (Step c.args.graph.now c.args.allowed.now) (Both c.args.seeds.now c.args.allowed.now) c.loop-head.invariant.stands.0 c.loop-head.marks.items c.loop-head.queue.items c.loop-head.head (omega (arith, c.loop-head-test.false, c.len.ensures)) c.loop-head.invariant.stands.1,
)

pub loop-head-preserved : goal.loop-head-preserved
loop-head-preserved c = record {
  long = c.in_ok-head.ensures.grew.long ∙ c.loop-head.invariant.long;
  stands = (c.loop-head.invariant.stands.0 + 1, stands_next c.args.graph.now c.args.allowed.now (Both c.args.seeds.now c.args.allowed.now) c.loop-head.invariant.stands.0 c.loop-head.marks.items c.loop-head.queue.items c.loop-head.head c.level.new.marks.items c.level.new.queue.items c.in_ok-head.head c.in_ok-head.ensures.end c.loop-head.invariant.stands.1 c.in_ok-head.ensures.grew);
}
