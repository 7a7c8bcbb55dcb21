use Rattle.std.proofs.Common.{ℕ, List, length, sym, subst, ap, arith}
use Rattle.bq_load_order.specs.Outcome.{outcome}
use Rattle.bq_load_workers.specs.Brought.{Brought}
use Rattle.bq_load_workers.specs.declared.pool.FinishedModule.{FinishedModule}
use Rattle.bq_load_workers.proofs.Bringing.{brought_none, counted_all}
use Rattle.bq_load_workers.proofs.pool.WorkerPool.run.Goals as goal

pub loop-init : goal.loop-init
loop-init g c = record {
  seat = c.requires.seat;
  brought = subst (λ (es : List (FinishedModule _ _)). Brought g.E.Evaluate.see g.E.Evaluate.see_fault (outcome (g.E.Evaluate.means c.args.self.now.evaluator) c.args.self.now.graph) (length c.args.self.now.graph) c.args.seat.now.place.place.me.0.finished c.args.seat.now.place.place.me.0.finished es) (sym c.new-modules.ensures.items)
      (brought_none g.E.Evaluate.see g.E.Evaluate.see_fault (outcome (g.E.Evaluate.means c.args.self.now.evaluator) c.args.self.now.graph) (length c.args.self.now.graph) _);
}

pub returns-then-done-count-clause-brought : goal.returns-then-done-count-clause-brought
returns-then-done-count-clause-brought g c = subst (λ (f : List ℕ). Brought g.E.Evaluate.see g.E.Evaluate.see_fault (outcome (g.E.Evaluate.means c.args.self.now.evaluator) c.args.self.now.graph) (length c.args.self.now.graph) c.args.seat.now.place.place.me.0.finished f c.loop.modules.items) (sym (ap (λ v. v.finished) c.done-done.ensures.joined)) c.loop.invariant.brought

pub returns-then-done-count-clause-all : goal.returns-then-done-count-clause-all
returns-then-done-count-clause-all g c _ = counted_all _ _ c.done-done.result (length c.args.self.now.graph) c.done-done.ensures.joined (omega (arith, c.if-done-count.true, c.len-count.ensures.len))

pub loop-preserved : goal.loop-preserved
loop-preserved g c = record {
  seat = c.turn.ensures.seat;
  brought = c.in_ok-turn.ensures.brought _ (subst (λ (f : List ℕ). Brought g.E.Evaluate.see g.E.Evaluate.see_fault (outcome (g.E.Evaluate.means c.args.self.now.evaluator) c.args.self.now.graph) (length c.args.self.now.graph) c.args.seat.now.place.place.me.0.finished f c.loop.modules.items) (sym (ap (λ v. v.finished) c.done-done.ensures.joined)) c.loop.invariant.brought);
}
