use Rattle.std.proofs.Common.{◌≡◌, ℕ, List, length, get_or, arith, ◌∙◌, ap, sym}
use Rattle.std.proofs.lemmas.List.{get_or_read}
use Rattle.bq_board_plan.specs.Graph.{Loads, edges}
use Rattle.bq_board_plan.specs.Plan.{start, HasStarts}
use Rattle.bq_board_plan.proofs.Edges.{start_whole}
use Rattle.bq_board_plan.proofs.plan.Plan.edges.Goals as goal

last_start : (p : Loads) (n : ℕ) (starts : List ℕ) (r : ℕ) → HasStarts p starts → n ≡ length p → r ≡ get_or starts n r → r ≡ edges p
last_start p n starts r h e is = get_or_read starts _ _ (omega (arith, h.wide)) is 0 ∙ h.at n (omega arith) ∙ ap (start p) e ∙ start_whole p

pub returns-clause-count : goal.returns-clause-count
returns-clause-count c = last_start _ c.modules.result c.self.inside.starts.items _ c.self.invariant.1 (c.modules.ensures.count ∙ sym (ap (λ (q : Loads). length q) c.self.view_is)) c.index.ensures ∙ ap (λ (q : Loads). edges q) c.self.view_is
