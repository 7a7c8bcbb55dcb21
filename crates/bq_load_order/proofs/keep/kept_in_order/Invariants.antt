use Rattle.std.proofs.Common.{◌≡◌, [], map, length, vec_len}
use Rattle.bq_load_order.specs.Outcome.{outcome}
use Rattle.bq_load_order.specs.SharedOutcomes.{shown, slot}
use Rattle.bq_load_order.specs.Slots.{Filling}
use Rattle.bq_load_order.specs.Again.{had, AreKept}
use Rattle.bq_load_order.proofs.keep.kept_in_order.Given as goal

abbrev pub invariant-loop-m : goal.invariant-loop-m
invariant-loop-m g l =
    let before = had (map (shown g.E.Evaluate.see g.E.Evaluate.see_fault) l.before.outcomes.now) in
    let after = outcome (g.E.Evaluate.means l.after.evaluator.now) l.after.graph.now in
    record {
      wide : vec_len l.kept.numbers ≡ length l.after.graph.now;
      found : Filling after (length l.after.graph.now) (map (slot g.E.Evaluate.see g.E.Evaluate.see_fault) l.kept.found.items) [];
      kept : AreKept before after l.before.graph.now l.after.was.now l.kept.numbers.items;
    }
