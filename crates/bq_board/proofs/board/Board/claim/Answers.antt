use Rattle.std.proofs.Common.{◌≡◌, ◌+◌, length, sym, ap, ◌∙◌, subst, refl, arith, true≢false}
use Rattle.bq_board_plan.specs.Counts.{Has}
use Rattle.bq_board_plan.specs.Graph.{Loads}
use Rattle.bq_board.specs.Board.{Posted, edge_word}
use Rattle.bq_board_plan.specs.Plan.{start}
use Rattle.bq_board.specs.Steps.{Fed}
use Rattle.bq_board.proofs.Keeps.{looks, tries}
use Rattle.bq_board.proofs.Hands.{sits_still}
use Rattle.bq_board.proofs.Looking.{saw_none, saw_more, fed_more, fed_whole}
use Rattle.bq_board.proofs.board.Board.claim.Goals as goal

pub loop-e-init : goal.loop-e-init
loop-e-init g c = record { seat = c.requires.seat; saw = saw_none _; fed = λ d a b. absurd (omega arith); low = omega arith }

pub load-found-requires : goal.load-found-requires
load-found-requires g c = let b = c.args.self.now in let at : 1 + c.modules-modules.result + c.loop-e.e ≡ edge_word b.plan c.loop-e.e = omega arith in
    (c.loop-e.invariant.seat.table, omega arith, rw b.key (looks g.row.V-Base.Denot g.row.V.Denot g.V.Parcel.belongs b.table.shared.key.base.value b.plan b.table.shared.key.seats.value _ _ c.loop-e.e _ _ at (omega arith)))

pub compare_exchange-found-requires : goal.compare_exchange-found-requires
compare_exchange-found-requires g c =
    let b = c.args.self.now in let i = c.loop-e.invariant in let u = c.loop-e.seat.place.me.0 in
    let from : c.start-from.result ≡ start u.plan c.args.m = c.start-from.ensures.number ∙ ap (λ (q : Loads). start q c.args.m) (sym i.seat.plan) in
    let to : c.start-to.result ≡ start u.plan (c.args.m + 1) = c.start-to.ensures.number ∙ ap (λ (q : Loads). start q (c.args.m + 1)) (sym i.seat.plan) in
    let fed : Fed u c.args.m = fed_whole u c.args.m c.start-from.result c.start-to.result from to (λ d l h. i.fed d l (omega arith)) in
    (i.seat.table, omega arith, rw b.key (tries g.row.V-Base.Denot g.row.V.Denot g.V.Parcel.belongs b.table.shared.key.base.value b.plan b.table.shared.key.seats.value _ _ c.args.m _ c.requires.module fed))

missed : (g : _) (c : goal.Then-not-is_posted g) → ¬ Posted c.load-found.result
missed g c h = absurd (true≢false (sym (c.is_posted.ensures.1 h) ∙ c.if-not-is_posted.true))

pub returns-then-not-is_posted-clause-seat : goal.returns-then-not-is_posted-clause-seat
returns-then-not-is_posted-clause-seat g c =
    let i = c.loop-e.invariant.seat in let long : length c.loop-e.seat.place.me.0.plan ≡ length c.args.self.now.plan = ap (λ (q : Loads). length q) i.plan in
    let t = (c.load-found.ensures.2.1 c.loop-e.e (omega arith)).1 (missed g c) in sits_still _ _ _ _ _ _ i c.load-found.ensures.0 t.0 refl refl refl refl

pub returns-then-not-is_posted-clause-answer : goal.returns-then-not-is_posted-clause-answer
returns-then-not-is_posted-clause-answer g c =
    let i = c.loop-e.invariant.seat in let saw = c.loop-e.invariant.saw in let v = c.args.seat.now.place.me.0 in let u = c.loop-e.seat.place.me.0 in let p = c.args.self.now.plan in
    let long : length u.plan ≡ length p = ap (λ (q : Loads). length q) i.plan in
    let from : start v.plan c.args.m ≡ c.start-from.result = ap (λ (q : Loads). start q c.args.m) c.requires.seat.plan ∙ sym c.start-from.ensures.number in
    let to : start v.plan (c.args.m + 1) ≡ c.start-to.result = ap (λ (q : Loads). start q (c.args.m + 1)) c.requires.seat.plan ∙ sym c.start-to.ensures.number in
    let low = c.loop-e.invariant.low in let high = c.loop-e-test.true in
    let t = (c.load-found.ensures.2.1 c.loop-e.e (omega arith)).1 (missed g c) in (
      u,
      saw,
      (
        t.0,
        (omega (arith, from, low), omega (arith, to, high)),
        t.1,
        (λ had. t.2 (subst (λ x. Has x.posted c.loop-e.e) (sym saw.1) had)),
        (λ had. t.3 (subst (λ x. Has x.counts (length x.plan)) (sym saw.1) had)),
      ),
    )

pub loop-e-preserved : goal.loop-e-preserved
loop-e-preserved g c =
    let i = c.loop-e.invariant in let u = c.loop-e.seat.place.me.0 in let long : length u.plan ≡ length c.args.self.now.plan = ap (λ (q : Loads). length q) i.seat.plan in
    let t = (c.load-found.ensures.2.1 c.loop-e.e (omega arith)).0 (c.is_posted.ensures.0 c.if-not-is_posted.false) in record {
      seat = sits_still _ _ _ _ _ _ i.seat c.load-found.ensures.0 t refl refl refl refl;
      saw = saw_more _ u _ c.loop-e.e i.saw t;
      fed = fed_more u _ c.start-from.result c.loop-e.e t i.fed;
      low = omega (arith, i.low);
    }

pub returns-then-found-eq0-clause-seat : goal.returns-then-found-eq0-clause-seat
returns-then-found-eq0-clause-seat g c = let t = ((c.compare_exchange-found.ensures.2.1 c.args.m refl).0 c.if-found-eq0.true).0 in
    sits_still _ _ _ _ _ _ c.loop-e.invariant.seat c.compare_exchange-found.ensures.0 t refl refl refl refl

pub returns-then-found-eq0-clause-answer : goal.returns-then-found-eq0-clause-answer
returns-then-found-eq0-clause-answer g c =
    let i = c.loop-e.invariant in let u = c.loop-e.seat.place.me.0 in
    let from : c.start-from.result ≡ start u.plan c.args.m = c.start-from.ensures.number ∙ ap (λ (q : Loads). start q c.args.m) (sym i.seat.plan) in
    let to : c.start-to.result ≡ start u.plan (c.args.m + 1) = c.start-to.ensures.number ∙ ap (λ (q : Loads). start q (c.args.m + 1)) (sym i.seat.plan) in
    let fed : Fed u c.args.m = fed_whole u c.args.m c.start-from.result c.start-to.result from to (λ d l h. i.fed d l (omega arith)) in
    let t = (c.compare_exchange-found.ensures.2.1 c.args.m refl).0 c.if-found-eq0.true in
    (u, i.saw, (t.0, fed, (λ had. t.1 (subst (λ x. Has x.counts (length x.plan)) (sym i.saw.1) had)), t.2))

pub returns-else-found-eq0-clause-seat : goal.returns-else-found-eq0-clause-seat
returns-else-found-eq0-clause-seat g c = let t = (c.compare_exchange-found.ensures.2.1 c.args.m refl).1 c.if-found-eq0.false in
    sits_still _ _ _ _ _ _ c.loop-e.invariant.seat c.compare_exchange-found.ensures.0 t refl refl refl refl

pub returns-else-found-eq0-clause-answer : goal.returns-else-found-eq0-clause-answer
returns-else-found-eq0-clause-answer g c = (c.loop-e.seat.place.me.0, c.loop-e.invariant.saw, (c.compare_exchange-found.ensures.2.1 c.args.m refl).1 c.if-found-eq0.false)
