use Rattle.std.proofs.Common.{◌≡◌, ◌∙◌, ℕ, ◌<◌, List, length, map, get_or, take, sym, ap, subst}
use Rattle.std.proofs.lemmas.List.{take_all}
use Rattle.bq_load_order.specs.Outcome.{outcome}
use Rattle.bq_load_order.specs.SharedOutcomes.{shown, slot}
use Rattle.bq_load_order.specs.Slots.{Filling, Puts, Ready, Tabulates, or_cyclic}
use Rattle.bq_load_order.proofs.Filled.{all_found, fill_ready, fill_next}
use Rattle.bq_load_order.proofs.outcomes.complete.Goals as goal

pub fill_one-requires-clause-ready : goal.fill_one-requires-clause-ready
fill_one-requires-clause-ready g c _ _ =
    let out = outcome (g.E.Evaluate.means c.args.evaluator.now) c.args.graph.now in
    let os = c.args.order.now.modules.items in let i = c.loop-m.m-index in
    let found = map (slot g.E.Evaluate.see g.E.Evaluate.see_fault) c.loop-m.found.items in
    let is : c.as_slice-m-items.result.now ≡ os = c.as_slice-m-items.ensures.value in
    let h : i < length os = subst (λ (t : List ℕ). i < length t) is c.loop-m-test.true in
    subst (Ready out c.args.graph.now found) (sym (ap (λ (t : List ℕ). get_or t i 0) is)) (fill_ready out c.args.graph.now os c.requires.order found i c.loop-m.invariant h)

pub loop-m-preserved : goal.loop-m-preserved
loop-m-preserved g c =
    let out = outcome (g.E.Evaluate.means c.args.evaluator.now) c.args.graph.now in
    let os = c.args.order.now.modules.items in let i = c.loop-m.m-index in
    let found = map (slot g.E.Evaluate.see g.E.Evaluate.see_fault) c.loop-m.found.items in
    let new = map (slot g.E.Evaluate.see g.E.Evaluate.see_fault) c.fill_one.new.found.items in
    let is : c.as_slice-m-items.result.now ≡ os = c.as_slice-m-items.ensures.value in
    let h : i < length os = subst (λ (t : List ℕ). i < length t) is c.loop-m-test.true in
    fill_next out c.args.graph.now os c.requires.order found i c.loop-m.invariant h new (subst (λ (m : ℕ). Puts out m found new) (ap (λ (t : List ℕ). get_or t i 0) is) c.in_ok-fill_one.ensures)

pub returns : goal.returns
returns g c =
    let means = g.E.Evaluate.means c.args.evaluator.now in
    let graph = c.args.graph.now in
    let held = slot g.E.Evaluate.see g.E.Evaluate.see_fault in
    let order = c.args.order.now.modules.items in
    let found = c.loop-m.found.items in
    let os = map (shown g.E.Evaluate.see g.E.Evaluate.see_fault) c.in_ok-all_settled.field-0.items in
    let is : c.as_slice-m-items.result.now ≡ order = c.as_slice-m-items.ensures.value in
    let all : take c.loop-m.m-index order ≡ order = ap (take c.loop-m.m-index) (sym is) ∙ (take_all c.loop-m.m-index c.as_slice-m-items.result.now c.loop-m-test.false ∙ is) in
    let filled = subst (λ (t : List ℕ). Filling (outcome means graph) (length graph) (map held found) t) all c.loop-m.invariant in
    all_found means graph order c.requires.order (map held found) filled os
    (subst (λ xs. Tabulates (length graph) (or_cyclic graph (map held xs)) os) c.as_slice.ensures.value c.in_ok-all_settled.ensures)
