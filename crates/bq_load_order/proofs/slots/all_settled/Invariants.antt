use Rattle.std.proofs.Common.{map}
use Rattle.bq_load_order.specs.SharedOutcomes.{shown, slot}
use Rattle.bq_load_order.specs.Slots.{Tabulates, or_cyclic}
use Rattle.bq_load_order.proofs.slots.all_settled.Given as goal

abbrev pub invariant-loop-m : goal.invariant-loop-m
invariant-loop-m g l = Tabulates l.m (or_cyclic l.graph (map (slot g.E.Evaluate.see g.E.Evaluate.see_fault) l.found)) (map (shown g.E.Evaluate.see g.E.Evaluate.see_fault) l.all.items)
