use Rattle.std.proofs.Common.{map, length, take}
use Rattle.bq_load_order.specs.Outcome.{outcome}
use Rattle.bq_load_order.specs.SharedOutcomes.{slot}
use Rattle.bq_load_order.specs.Slots.{Filling}
use Rattle.bq_load_order.proofs.outcomes.complete.Given as goal

abbrev pub invariant-loop-m : goal.invariant-loop-m
invariant-loop-m g l = Filling (outcome (g.E.Evaluate.means l.evaluator) l.graph) (length l.graph) (map (slot g.E.Evaluate.see g.E.Evaluate.see_fault) l.found.items) (take l.m-index l.order.modules.items)
