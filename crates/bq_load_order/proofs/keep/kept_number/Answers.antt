use Rattle.std.proofs.Common.{◌≡◌, true, Some, map, sym, ap, ◌∙◌}
use Rattle.bq_board_plan.specs.Graph.{row}
use Rattle.bq_load_order.specs.SharedOutcomes.{shown}
use Rattle.bq_load_order.specs.Again.{had, number_at, are_same}
use Rattle.bq_load_order.proofs.Keeping.{keeps, reaches}
use Rattle.bq_load_order.proofs.keep.kept_number.Goals as goal

pub returns-clause-keeps : goal.returns-clause-keeps
returns-clause-keeps g c =
    let before = had (map (shown g.E.Evaluate.see g.E.Evaluate.see_fault) c.args.before.now.outcomes.now) in
    let p = c.args.before.now.graph.now in
    let q = c.args.after.now.graph.now in
    let ns = c.args.numbers.now in
    let same : are_same ns (row q c.args.m) (row p c.in-Some.k) ≡ true =
    sym (ap (are_same ns (row q c.args.m)) c.row-loaded.ensures.row) ∙ sym (ap (λ ls. are_same ns ls c.row-loaded.result.now) c.row-loads.ensures.row) ∙ c.are_same.ensures c.if-not-are_same.false in
    let numbered : number_at c.args.after.now.was.now c.args.m ≡ Some c.in-Some.k = sym c.number_at.ensures ∙ c.in-Some.is in
    keeps before p (g.E.Evaluate.means c.args.after.now.evaluator.now) q c.args.after.now.was.now ns c.requires.kept c.args.m c.in-Some.k numbered same c.requires.unchanged c.requires.acyclic (sym c.is_too_deep.ensures ∙ c.if-is_too_deep.false)

pub returns-clause-reaches : goal.returns-clause-reaches
returns-clause-reaches g c =
    let before = had (map (shown g.E.Evaluate.see g.E.Evaluate.see_fault) c.args.before.now.outcomes.now) in
    let p = c.args.before.now.graph.now in
    let q = c.args.after.now.graph.now in
    let ns = c.args.numbers.now in
    let same : are_same ns (row q c.args.m) (row p c.in-Some.k) ≡ true =
    sym (ap (are_same ns (row q c.args.m)) c.row-loaded.ensures.row) ∙ sym (ap (λ ls. are_same ns ls c.row-loaded.result.now) c.row-loads.ensures.row) ∙ c.are_same.ensures c.if-not-are_same.false in
    let numbered : number_at c.args.after.now.was.now c.args.m ≡ Some c.in-Some.k = sym c.number_at.ensures ∙ c.in-Some.is in
    reaches before p (g.E.Evaluate.means c.args.after.now.evaluator.now) q c.args.after.now.was.now ns c.requires.kept c.args.m c.in-Some.k numbered same
