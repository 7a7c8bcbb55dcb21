use Rattle.std.proofs.Common.{◌≡◌, drop, map}
use Rattle.bq_load_order.specs.Outcome.{load_values}
use Rattle.bq_load_order.specs.SharedOutcomes.{slot}
use Rattle.bq_load_order.specs.Slots.{found_at}
use Rattle.bq_load_order.proofs.Values.{before}
use Rattle.bq_load_order.proofs.imports.imported.Given as goal

abbrev pub invariant-loop-l : goal.invariant-loop-l
invariant-loop-l g l =
    load_values (found_at (map (slot g.E.Evaluate.see g.E.Evaluate.see_fault) l.found)) l.loads
    ≡ before (map (λ a. g.E.Evaluate.see a.value) l.imports.items) (load_values (found_at (map (slot g.E.Evaluate.see g.E.Evaluate.see_fault) l.found)) (drop l.l-index l.loads))
