use Rattle.std.proofs.Common.{length, map, set, ap, ◌∙◌, Some}
use Rattle.std.proofs.lemmas.List.{map-set}
use Rattle.bq_load_order.specs.Outcome.{outcome}
use Rattle.bq_load_order.specs.SharedOutcomes.{slot}
use Rattle.bq_load_order.proofs.Filled.{fill_keep}
use Rattle.bq_load_workers.proofs.Bringing.{right_item}
use Rattle.bq_load_workers.proofs.load.put_all.Goals as goal

pub loop-brought-preserved : goal.loop-brought-preserved
loop-brought-preserved g c =
    let out = outcome (g.E.Evaluate.means c.args.pool.now.evaluator) c.args.pool.now.graph in
    let held = slot g.E.Evaluate.see g.E.Evaluate.see_fault in
    let one = right_item g.E.Evaluate.see g.E.Evaluate.see_fault out (length c.args.pool.now.graph) c.args.modules.now c.loop-brought.brought-index c.requires.right c.loop-brought-test.true c.brought-item.result c.brought-item.is in
    fill_keep out (length c.args.pool.now.graph) (map held c.loop-brought.found.items) c.brought-item.result.number c.loop-brought.invariant one.0 (map held (set c.loop-brought.found.items c.brought-item.result.number (Some c.in_ok-copy.copy)))
    (map-set held c.loop-brought.found.items c.brought-item.result.number (Some c.in_ok-copy.copy) ∙ ap (λ o. set (map held c.loop-brought.found.items) c.brought-item.result.number (Some o)) (c.in_ok-copy.ensures ∙ one.1))
