use Rattle.std.proofs.Common.{length, map, ◌∙◌, arith}
use Rattle.std.proofs.lemmas.List.{length-map}
use Rattle.bq_load_order.specs.Outcome.{outcome}
use Rattle.bq_load_order.specs.SharedOutcomes.{shown, slot}
use Rattle.bq_load_order.proofs.Filled.{fill_none, none_shown}
use Rattle.bq_load_order.specs.Again.{had}
use Rattle.bq_load_order.proofs.Keeping.{in_order, keep_none}
use Rattle.bq_load_order.proofs.keep.kept_in_order.Goals as goal

pub keep_one-requires-clause-known : goal.keep_one-requires-clause-known
keep_one-requires-clause-known g c _ _ =
    (in_order c.args.after.now.graph.now c.args.after.now.order.now.modules.items c.as_slice-m-items.result.now c.loop-m.m-index c.requires.order c.as_slice-m-items.ensures.value c.loop-m-test.true).0

pub keep_one-requires-clause-acyclic : goal.keep_one-requires-clause-acyclic
keep_one-requires-clause-acyclic g c _ _ =
    (in_order c.args.after.now.graph.now c.args.after.now.order.now.modules.items c.as_slice-m-items.result.now c.loop-m.m-index c.requires.order c.as_slice-m-items.ensures.value c.loop-m-test.true).1

pub loop-m-init : goal.loop-m-init
loop-m-init g c =
    let held = slot g.E.Evaluate.see g.E.Evaluate.see_fault in
    let q = c.args.after.now.graph.now in
    let before = had (map (shown g.E.Evaluate.see g.E.Evaluate.see_fault) c.args.before.now.outcomes.now) in
    let new = outcome (g.E.Evaluate.means c.args.after.now.evaluator.now) q in
    record {
      wide = c.in_ok-numbers.ensures.0 ∙ c.len-count.ensures.len;
      found = fill_none new (length q) (map held c.in_ok-found.found.items)
          (omega (arith, length-map c.in_ok-found.found.items held, c.in_ok-found.ensures.0, c.in_ok-found.found.ok, c.len-count.ensures.len)) (none_shown g.E.Evaluate.see g.E.Evaluate.see_fault c.in_ok-found.found.items c.in_ok-found.ensures.1);
      kept = keep_none before new c.args.before.now.graph.now c.args.after.now.was.now c.in_ok-numbers.numbers.items c.in_ok-numbers.ensures.1;
    }

pub loop-m-preserved : goal.loop-m-preserved
loop-m-preserved g c = record { wide = c.in_ok-keep_one.ensures.wide; found = c.in_ok-keep_one.ensures.found; kept = c.in_ok-keep_one.ensures.kept }

pub returns : goal.returns
returns g c = c.loop-m.invariant.found
