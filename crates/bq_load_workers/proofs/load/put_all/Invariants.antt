use Rattle.std.proofs.Common.{map, length, []}
use Rattle.bq_load_order.specs.Outcome.{outcome}
use Rattle.bq_load_order.specs.SharedOutcomes.{slot}
use Rattle.bq_load_order.specs.Slots.{Filling}
use Rattle.bq_load_workers.proofs.load.put_all.Given as goal

abbrev pub invariant-loop-brought : goal.invariant-loop-brought
invariant-loop-brought g l = Filling (outcome (g.E.Evaluate.means l.pool.evaluator) l.pool.graph) (length l.pool.graph) (map (slot g.E.Evaluate.see g.E.Evaluate.see_fault) l.found.items) []
