use Rattle.std.proofs.Common.{◌≡◌, ◌≤◌, ℕ, length, arith, ◌∙◌, ap, sym, subst}
use Rattle.std.proofs.lemmas.List.{get_or_read}
use Rattle.bq_board_plan.specs.Graph.{Loads, edges}
use Rattle.bq_board_plan.specs.Plan.{start}
use Rattle.bq_board_plan.proofs.Edges.{start_le}
use Rattle.bq_board_plan.proofs.plan.Plan.start.Goals as goal

pub returns-clause-within : goal.returns-clause-within
returns-clause-within c =
    let i = c.self.invariant.1 in let long = ap (λ (q : Loads). length q) c.self.view_is in
    let is : c.index.result.now ≡ start c.self.inside.graph c.args.m = get_or_read c.self.inside.starts.items _ _ (omega (arith, i.wide)) c.index.ensures 0 ∙ i.at c.args.m (omega arith) in
    subst (λ (q : Loads). c.index.result.now ≤ edges q) c.self.view_is (subst (λ (n : ℕ). n ≤ edges c.self.inside.graph) (sym is) (start_le c.self.inside.graph c.args.m))
