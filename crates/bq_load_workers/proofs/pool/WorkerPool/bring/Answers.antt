use Rattle.std.proofs.Common.{ℕ, List, [], ◌∷◌, ◌++◌, length, sym, subst, ap, ◌∙◌, arith}
use Rattle.bq_board.specs.Graph.{Loads}
use Rattle.bq_board.specs.Plan.{IsOut}
use Rattle.bq_load_order.specs.Outcome.{outcome}
use Rattle.bq_load_order.specs.SharedOutcomes.{value_in}
use Rattle.bq_load_workers.specs.Brought.{Brought}
use Rattle.bq_load_workers.specs.declared.pool.FinishedModule.{FinishedModule}
use Rattle.bq_load_workers.proofs.Bringing.{brought_more}
use Rattle.bq_load_workers.proofs.pool.WorkerPool.bring.Goals as goal

pub returns-then-not-wins-clause-brought : goal.returns-then-not-wins-clause-brought
returns-then-not-wins-clause-brought g c before h = subst (λ (f : List ℕ). Brought g.E.Evaluate.see g.E.Evaluate.see_fault (outcome (g.E.Evaluate.means c.args.self.now.evaluator) c.args.self.now.graph) (length c.args.self.now.graph) before f c.args.modules.now.items) (sym c.wins.ensures.finished) h

pub find-requires-clause-seat : goal.find-requires-clause-seat
find-requires-clause-seat g c _ _ = c.wins.ensures.seat

pub find-requires-clause-known : goal.find-requires-clause-known
find-requires-clause-known g c _ _ = c.requires.known

pub find-requires-clause-holds : goal.find-requires-clause-holds
find-requires-clause-holds g c _ _ = c.wins.ensures.holds c.if-not-wins.false

pub deliver-requires-clause-seat : goal.deliver-requires-clause-seat
deliver-requires-clause-seat g c _ _ = c.find.ensures.seat

pub deliver-requires-clause-known : goal.deliver-requires-clause-known
deliver-requires-clause-known g c _ _ = c.requires.known

pub deliver-requires-clause-owes : goal.deliver-requires-clause-owes
deliver-requires-clause-owes g c _ _ = c.in_ok-outcome.ensures.owes

pub deliver-requires-clause-out : goal.deliver-requires-clause-out
deliver-requires-clause-out g c _ _ = subst (λ (q : Loads). IsOut q c.args.m c.edges_out-out.result.now) c.plan.ensures c.edges_out-out.ensures.out

pub deliver-requires-clause-count : goal.deliver-requires-clause-count
deliver-requires-clause-count g c _ _ = c.in_ok-copies.ensures.count

pub deliver-requires-clause-copies : goal.deliver-requires-clause-copies
deliver-requires-clause-copies g c _ _ = λ k d h. let same = c.in_ok-copies.ensures.same k d h in (same.0, same.1 ∙ ap value_in c.in_ok-outcome.ensures.outcome)

pub returns-clause-seat : goal.returns-clause-seat
returns-clause-seat g c = c.deliver.ensures.seat

pub returns-clause-brought : goal.returns-clause-brought
returns-clause-brought g c before h =
    let finished = c.deliver.ensures.finished ∙ ap (λ (f : List ℕ). f ++ c.args.m ∷ []) (c.find.ensures.finished ∙ c.wins.ensures.finished) in
    subst (λ (es : List (FinishedModule _ _)). Brought g.E.Evaluate.see g.E.Evaluate.see_fault (outcome (g.E.Evaluate.means c.args.self.now.evaluator) c.args.self.now.graph) (length c.args.self.now.graph) before c.deliver.new.seat.place.me.0.finished es) (sym c.in_ok-push.ensures.items)
    (brought_more g.E.Evaluate.see g.E.Evaluate.see_fault (outcome (g.E.Evaluate.means c.args.self.now.evaluator) c.args.self.now.graph) (length c.args.self.now.graph) before _ _ c.args.modules.now.items _ h finished (omega (arith, c.requires.known, c.args.self.now.plan.wide)) c.in_ok-outcome.ensures.outcome)
