use Rattle.std.proofs.Common.{ℕ, List, ◌++◌, ◌∷◌, [], length, get_or, sym, subst, arith, ap, ◌∙◌}
use Rattle.std.proofs.lemmas.List.{take_all}
use Rattle.std.proofs.lemmas.List.Elements.{All-pop}
use Rattle.std.specs.Option.{option_to_list}
use Rattle.bq_board.specs.Counts.{Has}
use Rattle.bq_board.proofs.Conditions.{delivers_none, not_yet_posted, delivers_more}
use Rattle.bq_board.proofs.Lemmas.{Has-get_or}
use Rattle.bq_load_order.specs.Outcome.{outcome}
use Rattle.bq_load_order.specs.SharedOutcomes.{value_in}
use Rattle.bq_load_workers.specs.Work.{IsImport}
use Rattle.bq_load_workers.proofs.Bringing.{if_some}
use Rattle.bq_load_workers.proofs.pool.WorkerPool.deliver.Goals as goal

pub loop-e-init : goal.loop-e-init
loop-e-init g c = record { seat = c.requires.seat; done = delivers_none c.args.self.now.board.plan _ _; count = omega (arith, c.requires.count, c.args.copies.ok); copies = c.requires.copies }

pub unwrap-copy-requires : goal.unwrap-copy-requires
unwrap-copy-requires g c = c.pop.ensures.variant.1 (omega (arith, c.loop-e.invariant.count, c.loop-e.copies.ok, c.loop-e-test.true))

pub post-requires-clause-seat : goal.post-requires-clause-seat
post-requires-clause-seat g c _ _ = c.loop-e.invariant.seat

pub post-requires-clause-edge : goal.post-requires-clause-edge
post-requires-clause-edge g c _ _ = (c.requires.out.leaves _ (Has-get_or c.args.out.now c.loop-e.e-index c.loop-e-test.true)).0

pub post-requires-clause-claimed : goal.post-requires-clause-claimed
post-requires-clause-claimed g c _ _ =
    let mine = subst (λ v. Has v.claimed c.args.m) (sym c.loop-e.invariant.done.view) c.requires.owes.claimed in
    subst (λ (l : ℕ). Has c.loop-e.seat.place.me.0.claimed l) (sym (c.requires.out.leaves _ (Has-get_or c.args.out.now c.loop-e.e-index c.loop-e-test.true)).1) mine

pub post-requires-clause-once : goal.post-requires-clause-once
post-requires-clause-once g c _ _ = not_yet_posted c.args.self.now.board.plan _ _ c.args.m c.args.out.now c.loop-e.e-index c.loop-e.invariant.done c.requires.owes c.requires.out c.loop-e-test.true

pub post-requires-clause-belongs : goal.post-requires-clause-belongs
post-requires-clause-belongs g c _ _ =
    let mine = if_some (λ x. IsImport g.E.Evaluate.see (outcome (g.E.Evaluate.means c.args.self.now.evaluator) c.args.self.now.graph) c.args.m x.number x.value) c.pop.result c.unwrap-copy.result c.unwrap-copy.ensures (All-pop (λ x. IsImport g.E.Evaluate.see (outcome (g.E.Evaluate.means c.args.self.now.evaluator) c.args.self.now.graph) c.args.m x.number x.value) c.loop-e.copies.items c.pop.new.self.items c.pop.result c.pop.ensures.items c.loop-e.invariant.copies).1 in
    let from = (c.requires.out.leaves (get_or c.args.out.now c.loop-e.e-index 0) (Has-get_or c.args.out.now c.loop-e.e-index c.loop-e-test.true)).1 in
    (mine.0 ∙ sym from, mine.1 ∙ sym (λ i. value_in (outcome (g.E.Evaluate.means (c.args.self.now.by i)) (c.args.self.now.of i) (from i))))

pub loop-e-preserved : goal.loop-e-preserved
loop-e-preserved g c =
    record {
      seat = c.post.ensures.seat;
      done = delivers_more c.args.self.now.board.plan _ _ _ _ c.loop-e.e-index c.loop-e.invariant.done c.loop-e-test.true c.post.ensures.posted;
      count = omega (arith, c.pop.ensures.len, ap (λ o. length (option_to_list o)) c.unwrap-copy.ensures, c.loop-e.invariant.count, c.loop-e.copies.ok, c.pop.new.self.ok);
      copies = (All-pop (λ x. IsImport g.E.Evaluate.see (outcome (g.E.Evaluate.means c.args.self.now.evaluator) c.args.self.now.graph) c.args.m x.number x.value) c.loop-e.copies.items c.pop.new.self.items c.pop.result c.pop.ensures.items c.loop-e.invariant.copies).0;
    }

pub finish-requires-clause-seat : goal.finish-requires-clause-seat
finish-requires-clause-seat g c _ _ = c.loop-e.invariant.seat

pub finish-requires-clause-claimed : goal.finish-requires-clause-claimed
finish-requires-clause-claimed g c _ _ = subst (λ v. Has v.claimed c.args.m) (sym c.loop-e.invariant.done.view) c.requires.owes.claimed

pub finish-requires-clause-once : goal.finish-requires-clause-once
finish-requires-clause-once g c _ _ = subst (λ v. ¬ Has v.finished c.args.m) (sym c.loop-e.invariant.done.view) c.requires.owes.finished

pub finish-requires-clause-out : goal.finish-requires-clause-out
finish-requires-clause-out g c _ _ e h from =
    c.loop-e.invariant.done.all e (subst (λ (t : List ℕ). Has t e) (sym (take_all c.loop-e.e-index c.args.out.now (omega (arith, c.loop-e-test.false)))) (c.requires.out.all e h from))

pub returns-clause-finished : goal.returns-clause-finished
returns-clause-finished g c = ap (λ v. v.finished) c.finish.ensures.finished ∙ ap (λ v. v.finished ++ c.args.m ∷ []) c.loop-e.invariant.done.view
