use Rattle.std.proofs.Common.{length, map, arith}
use Rattle.bq_load_order.specs.SharedOutcomes.{shown, slot}
use Rattle.bq_load_order.specs.Slots.{or_cyclic}
use Rattle.bq_load_order.proofs.Filled.{means_none, means_more, tabulates_all}
use Rattle.bq_load_order.proofs.slots.all_settled.Goals as goal

pub settled-requires-clause-known : goal.settled-requires-clause-known
settled-requires-clause-known g c _ _ = omega arith

pub loop-m-init : goal.loop-m-init
loop-m-init g c = means_none (shown g.E.Evaluate.see g.E.Evaluate.see_fault) (or_cyclic c.args.graph.now (map (slot g.E.Evaluate.see g.E.Evaluate.see_fault) c.args.found.now)) c.new-all.result.items c.new-all.ensures.items

pub loop-m-preserved : goal.loop-m-preserved
loop-m-preserved g c =
    means_more (shown g.E.Evaluate.see g.E.Evaluate.see_fault) (or_cyclic c.args.graph.now (map (slot g.E.Evaluate.see g.E.Evaluate.see_fault) c.args.found.now)) c.loop-m.m c.loop-m.all.items c.push.new.self.items c.in_ok-settled.field-0
    c.loop-m.invariant c.in_ok-settled.ensures c.in_ok-push.ensures.items

pub returns : goal.returns
returns g c = tabulates_all (or_cyclic c.args.graph.now (map (slot g.E.Evaluate.see g.E.Evaluate.see_fault) c.args.found.now)) c.loop-m.m (length c.args.graph.now) (map (shown g.E.Evaluate.see g.E.Evaluate.see_fault) c.loop-m.all.items) c.loop-m.invariant (omega arith)
