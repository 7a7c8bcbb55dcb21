use Rattle.std.proofs.Common.{ℕ, List, sym, subst, arith}
use Rattle.std.proofs.lemmas.List.{take_all}
use Rattle.bq_board.specs.Counts.{Has}
use Rattle.bq_board.specs.Graph.{Loads}
use Rattle.bq_board.specs.Plan.{IsOut}
use Rattle.bq_board.proofs.Lemmas.{Has-get_or}
use Rattle.bq_board.proofs.Conditions.{delivers_none, not_yet_posted, delivers_more, delivers_all}
use Rattle.bq_tests_program.proofs.board.deliver.Goals as goal

pub loop-e-init : goal.loop-e-init
loop-e-init c = record { seat = c.requires.seat; done = delivers_none c.args.board.now.plan _ _ }

pub post-requires-clause-seat : goal.post-requires-clause-seat
post-requires-clause-seat c _ = c.loop-e.invariant.seat

pub post-requires-clause-edge : goal.post-requires-clause-edge
post-requires-clause-edge c _ =
    let es = c.edges_out-e-items.result.now in let out = subst (λ (q : Loads). IsOut q c.args.m es) c.plan.ensures c.edges_out-e-items.ensures.out in
    (out.leaves _ (Has-get_or es c.loop-e.e-index c.loop-e-test.true)).0

pub post-requires-clause-claimed : goal.post-requires-clause-claimed
post-requires-clause-claimed c _ =
    let es = c.edges_out-e-items.result.now in let out = subst (λ (q : Loads). IsOut q c.args.m es) c.plan.ensures c.edges_out-e-items.ensures.out in
    let mine = subst (λ v. Has v.claimed c.args.m) (sym c.loop-e.invariant.done.view) c.requires.owes.claimed in
    subst (λ (l : ℕ). Has c.loop-e.seat.place.me.0.claimed l) (sym (out.leaves _ (Has-get_or es c.loop-e.e-index c.loop-e-test.true)).1) mine

pub post-requires-clause-once : goal.post-requires-clause-once
post-requires-clause-once c _ =
    let es = c.edges_out-e-items.result.now in let out = subst (λ (q : Loads). IsOut q c.args.m es) c.plan.ensures c.edges_out-e-items.ensures.out in
    not_yet_posted c.args.board.now.plan _ _ c.args.m es c.loop-e.e-index c.loop-e.invariant.done c.requires.owes out c.loop-e-test.true

pub post-requires-clause-belongs : goal.post-requires-clause-belongs
post-requires-clause-belongs c _ =
    let es = c.edges_out-e-items.result.now in let out = subst (λ (q : Loads). IsOut q c.args.m es) c.plan.ensures c.edges_out-e-items.ensures.out in
    (sym c.requires.base, sym (out.leaves _ (Has-get_or es c.loop-e.e-index c.loop-e-test.true)).1)

pub loop-e-preserved : goal.loop-e-preserved
loop-e-preserved c = record {
  seat = c.post.ensures.seat;
  done = delivers_more c.args.board.now.plan _ _ _ _ c.loop-e.e-index c.loop-e.invariant.done c.loop-e-test.true c.post.ensures.posted;
}

pub finish-requires-clause-seat : goal.finish-requires-clause-seat
finish-requires-clause-seat c _ = c.loop-e.invariant.seat

pub finish-requires-clause-claimed : goal.finish-requires-clause-claimed
finish-requires-clause-claimed c _ = subst (λ v. Has v.claimed c.args.m) (sym c.loop-e.invariant.done.view) c.requires.owes.claimed

pub finish-requires-clause-once : goal.finish-requires-clause-once
finish-requires-clause-once c _ = subst (λ v. ¬ Has v.finished c.args.m) (sym c.loop-e.invariant.done.view) c.requires.owes.finished

pub finish-requires-clause-out : goal.finish-requires-clause-out
finish-requires-clause-out c _ e h from =
    let es = c.edges_out-e-items.result.now in let out = subst (λ (q : Loads). IsOut q c.args.m es) c.plan.ensures c.edges_out-e-items.ensures.out in
    c.loop-e.invariant.done.all e (subst (λ (t : List ℕ). Has t e) (sym (take_all c.loop-e.e-index es (omega arith))) (out.all e h from))

pub returns-clause-keeps : goal.returns-clause-keeps
returns-clause-keeps c =
    let es = c.edges_out-e-items.result.now in let out = subst (λ (q : Loads). IsOut q c.args.m es) c.plan.ensures c.edges_out-e-items.ensures.out in
    delivers_all c.args.board.now.plan _ _ _ c.args.m es c.loop-e.e-index c.loop-e.invariant.done out c.finish.ensures.finished
