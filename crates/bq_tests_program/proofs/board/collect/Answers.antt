use Rattle.std.proofs.Common.{◌≡◌, ◌+◌, arith, ap, ◌∙◌}
use Rattle.bq_board.specs.Graph.{Loads}
use Rattle.bq_board.specs.Plan.{start, Into}
use Rattle.bq_board.proofs.Conditions.{collects_none, collects_more, collects_all}
use Rattle.bq_tests_program.proofs.board.collect.Goals as goal

pub loop-e-init : goal.loop-e-init
loop-e-init c = record { seat = c.requires.seat; done = collects_none c.args.board.now.plan _ c.args.m _ c.requires.holds }

pub loop-e-preserved : goal.loop-e-preserved
loop-e-preserved c =
    let p = c.args.board.now.plan in
    let from : c.start-e.result ≡ start p c.args.m = c.start-e.ensures.number ∙ ap (λ (q : Loads). start q c.args.m) c.plan.ensures in
    let to : c.start-e-end.result ≡ start p (c.args.m + 1) = c.start-e-end.ensures.number ∙ ap (λ (q : Loads). start q (c.args.m + 1)) c.plan-2.ensures in
    let into : Into p c.args.m c.loop-e.e = (omega (arith, from, c.loop-e.auto.e), omega (arith, to)) in record {
      seat = c.fetch-note.ensures.seat;
      done = collects_more p _ _ _ c.args.m c.loop-e.e c.loop-e.invariant.done into c.fetch-note.ensures.fetched;
    }

pub returns-clause-keeps : goal.returns-clause-keeps
returns-clause-keeps c = (collects_all c.args.board.now.plan _ _ c.args.m c.loop-e.e c.loop-e.invariant.done c.requires.holds).1
