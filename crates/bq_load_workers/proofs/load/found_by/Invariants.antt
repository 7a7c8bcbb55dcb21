use Rattle.std.proofs.Common.{map, length, take, All, IsOk, []}
use Rattle.bq_load_order.specs.Outcome.{outcome}
use Rattle.bq_load_order.specs.SharedOutcomes.{slot}
use Rattle.bq_load_order.specs.Slots.{Filling}
use Rattle.bq_load_workers.proofs.load.found_by.Given as goal

abbrev pub invariant-loop-answer : goal.invariant-loop-answer
invariant-loop-answer g l = record {
  had : All IsOk (take l.answer-index l.answers);
  found : Filling (outcome (g.E.Evaluate.means l.pool.evaluator) l.pool.graph) (length l.pool.graph) (map (slot g.E.Evaluate.see g.E.Evaluate.see_fault) l.found.items) [];
}
