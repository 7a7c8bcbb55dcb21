use Rattle.std.proofs.Common.{◌≡◌, ◌+◌, map, sym, subst, ap, ◌∙◌, Err, arith}
use Rattle.std.proofs.lemmas.List.{map_push}
use Rattle.bq_board.specs.Graph.{Loads}
use Rattle.bq_board.specs.Plan.{start, source, Into}
use Rattle.bq_board.proofs.Conditions.{collects_none, collects_more, collects_all, may_fetch}
use Rattle.bq_board.proofs.Edges.{are_loads}
use Rattle.bq_load_order.specs.Outcome.{outcome}
use Rattle.bq_load_order.specs.SharedOutcomes.{seen_value, value_in}
use Rattle.bq_load_workers.proofs.Imports.{Came, into_here, came_none, came_next, came_stop, came_all}
use Rattle.bq_load_workers.proofs.pool.WorkerPool.imports.Goals as goal

pub loop-e-init : goal.loop-e-init
loop-e-init g c =
    let from : c.start-e.result ≡ start c.args.self.now.board.plan c.args.m = c.start-e.ensures.number ∙ ap (λ (q : Loads). start q c.args.m) c.plan.ensures in record {
      seat = c.requires.seat;
      done = collects_none c.args.self.now.board.plan _ c.args.m _ c.requires.holds;
      came = came_none (outcome (g.E.Evaluate.means c.args.self.now.evaluator) c.args.self.now.graph) c.args.self.now.board.plan c.args.m c.start-e.result (map (λ a. g.E.Evaluate.see a.value) c.new-imports.result.items) from (ap (map (λ a. g.E.Evaluate.see a.value)) c.new-imports.ensures.items);
    }

pub fetch-import-requires-clause-seat : goal.fetch-import-requires-clause-seat
fetch-import-requires-clause-seat g c _ _ = c.loop-e.invariant.seat

pub fetch-import-requires-clause-claimed : goal.fetch-import-requires-clause-claimed
fetch-import-requires-clause-claimed g c _ _ =
    let from : c.start-e.result ≡ start c.args.self.now.board.plan c.args.m = c.start-e.ensures.number ∙ ap (λ (q : Loads). start q c.args.m) c.plan.ensures in
    let to : c.start-e-end.result ≡ start c.args.self.now.board.plan (c.args.m + 1) = c.start-e-end.ensures.number ∙ ap (λ (q : Loads). start q (c.args.m + 1)) c.plan-2.ensures in
    (may_fetch c.args.self.now.board.plan _ _ c.args.m c.loop-e.e c.loop-e.invariant.done c.requires.holds (into_here c.args.self.now.board.plan c.args.m c.loop-e.e from to c.loop-e.auto.e c.loop-e-test.true)).0

pub fetch-import-requires-clause-once : goal.fetch-import-requires-clause-once
fetch-import-requires-clause-once g c _ _ =
    let from : c.start-e.result ≡ start c.args.self.now.board.plan c.args.m = c.start-e.ensures.number ∙ ap (λ (q : Loads). start q c.args.m) c.plan.ensures in
    let to : c.start-e-end.result ≡ start c.args.self.now.board.plan (c.args.m + 1) = c.start-e-end.ensures.number ∙ ap (λ (q : Loads). start q (c.args.m + 1)) c.plan-2.ensures in
    (may_fetch c.args.self.now.board.plan _ _ c.args.m c.loop-e.e c.loop-e.invariant.done c.requires.holds (into_here c.args.self.now.board.plan c.args.m c.loop-e.e from to c.loop-e.auto.e c.loop-e-test.true)).1

pub loop-e-preserved : goal.loop-e-preserved
loop-e-preserved g c =
    let out = outcome (g.E.Evaluate.means c.args.self.now.evaluator) c.args.self.now.graph in
    let q : Loads = c.args.self.now.board.plan in
    let from : c.start-e.result ≡ start q c.args.m = c.start-e.ensures.number ∙ ap (λ (q : Loads). start q c.args.m) c.plan.ensures in
    let to : c.start-e-end.result ≡ start q (c.args.m + 1) = c.start-e-end.ensures.number ∙ ap (λ (q : Loads). start q (c.args.m + 1)) c.plan-2.ensures in
    let into : Into q c.args.m c.loop-e.e = into_here q c.args.m c.loop-e.e from to c.loop-e.auto.e c.loop-e-test.true in
    let mine : seen_value g.E.Evaluate.see c.fetch-import.result.value ≡ value_in (out (source q c.loop-e.e)) =
    c.fetch-import.ensures.belongs.1 ∙ (λ i. value_in (outcome (g.E.Evaluate.means (c.args.self.now.by i)) (c.args.self.now.of i) (source q c.loop-e.e))) in record {
      seat = c.fetch-import.ensures.seat;
      done = collects_more q _ _ _ c.args.m c.loop-e.e c.loop-e.invariant.done into c.fetch-import.ensures.fetched;
      came = subst (λ vs. Came out q c.args.m (c.loop-e.e + 1) vs) (sym (ap (map (λ a. g.E.Evaluate.see a.value)) c.in_ok-push-in-Some.ensures.items ∙ map_push (λ a. g.E.Evaluate.see a.value) c.loop-e.imports.items c.in-Some.value))
          (came_next out q c.args.m (are_loads q) c.requires.known c.loop-e.e into (map (λ a. g.E.Evaluate.see a.value) c.loop-e.imports.items) c.loop-e.invariant.came (g.E.Evaluate.see c.in-Some.value.value) (sym mine ∙ ap (seen_value g.E.Evaluate.see) c.in-Some.is));
    }

pub returns-in-None-clause-values : goal.returns-in-None-clause-values
returns-in-None-clause-values g c =
    let out = outcome (g.E.Evaluate.means c.args.self.now.evaluator) c.args.self.now.graph in
    let q : Loads = c.args.self.now.board.plan in
    let from : c.start-e.result ≡ start q c.args.m = c.start-e.ensures.number ∙ ap (λ (q : Loads). start q c.args.m) c.plan.ensures in
    let to : c.start-e-end.result ≡ start q (c.args.m + 1) = c.start-e-end.ensures.number ∙ ap (λ (q : Loads). start q (c.args.m + 1)) c.plan-2.ensures in
    let into : Into q c.args.m c.loop-e.e = into_here q c.args.m c.loop-e.e from to c.loop-e.auto.e c.loop-e-test.true in
    let mine : seen_value g.E.Evaluate.see c.fetch-import.result.value ≡ value_in (out (source q c.loop-e.e)) =
    c.fetch-import.ensures.belongs.1 ∙ (λ i. value_in (outcome (g.E.Evaluate.means (c.args.self.now.by i)) (c.args.self.now.of i) (source q c.loop-e.e))) in
    ap Err c.fetch-import.ensures.belongs.0
    ∙ sym (came_stop out q c.args.m (are_loads q) c.requires.known c.loop-e.e into (map (λ a. g.E.Evaluate.see a.value) c.loop-e.imports.items) c.loop-e.invariant.came (sym mine ∙ ap (seen_value g.E.Evaluate.see) c.in-None.is))

pub returns-in-None-clause-owes : goal.returns-in-None-clause-owes
returns-in-None-clause-owes g c =
    let q : Loads = c.args.self.now.board.plan in
    let from : c.start-e.result ≡ start q c.args.m = c.start-e.ensures.number ∙ ap (λ (q : Loads). start q c.args.m) c.plan.ensures in
    let to : c.start-e-end.result ≡ start q (c.args.m + 1) = c.start-e-end.ensures.number ∙ ap (λ (q : Loads). start q (c.args.m + 1)) c.plan-2.ensures in
    (collects_all q _ _ c.args.m (c.loop-e.e + 1) (collects_more q _ _ _ c.args.m c.loop-e.e c.loop-e.invariant.done (into_here q c.args.m c.loop-e.e from to c.loop-e.auto.e c.loop-e-test.true) c.fetch-import.ensures.fetched) c.requires.holds).0

pub returns-in-None-clause-finished : goal.returns-in-None-clause-finished
returns-in-None-clause-finished g c = ap (λ v. v.finished) c.fetch-import.ensures.fetched ∙ ap (λ v. v.finished) c.loop-e.invariant.done.view

pub returns-clause-seat : goal.returns-clause-seat
returns-clause-seat g c = c.loop-e.invariant.seat

pub returns-clause-owes : goal.returns-clause-owes
returns-clause-owes g c = (collects_all c.args.self.now.board.plan _ _ c.args.m c.loop-e.e c.loop-e.invariant.done c.requires.holds).0

pub returns-clause-finished : goal.returns-clause-finished
returns-clause-finished g c = ap (λ v. v.finished) c.loop-e.invariant.done.view

pub returns-clause-values : goal.returns-clause-values
returns-clause-values g c =
    let q : Loads = c.args.self.now.board.plan in
    let to : c.start-e-end.result ≡ start q (c.args.m + 1) = c.start-e-end.ensures.number ∙ ap (λ (q : Loads). start q (c.args.m + 1)) c.plan-2.ensures in
    sym (came_all (outcome (g.E.Evaluate.means c.args.self.now.evaluator) c.args.self.now.graph) q c.args.m c.requires.known c.loop-e.e (omega (arith, to, c.loop-e-test.false)) (map (λ a. g.E.Evaluate.see a.value) c.loop-e.imports.items) c.loop-e.invariant.came)
