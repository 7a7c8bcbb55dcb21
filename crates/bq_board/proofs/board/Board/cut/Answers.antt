use Rattle.std.proofs.Common.{All, List, length, subst, sym, ◌<◌, arith, ap}
use Rattle.std.proofs.lemmas.List.Elements.{All-push}
use Rattle.bq_board.specs.Seats.{base_of}
use Rattle.bq_board.specs.declared.board.Seat.{Seat}
use Rattle.bq_board.proofs.Keeps.{splits}
use Rattle.bq_board.proofs.Seating.{IsFresh, cut_from, cut_off, cut_last}
use Rattle.bq_board.proofs.board.Board.cut.Goals as goal

pub split_seat-place-requires : goal.split_seat-place-requires
split_seat-place-requires g c = let f = c.loop.invariant.first in let b = c.args.self.now in let some-left : 0 < c.loop.first.place.me.0.spare = omega (arith, ap (λ v. v.spare) f.1) in
    (f.0.table, omega arith, rw b.key (splits g.row.V-Base.Denot g.row.V.Denot g.V.Parcel.belongs b.table.shared.key.base.value b.plan b.table.shared.key.seats.value _ _ (ap (λ v. v.base) f.1) (ap (λ v. v.plan) f.1) some-left))

pub loop-init : goal.loop-init
loop-init g c = record { count = omega (arith, c.new-all.ensures.len); fresh = λ k d h. absurd (omega (arith, h, ap length c.new-all.ensures.items)); first = c.requires.fresh }

pub loop-preserved : goal.loop-preserved
loop-preserved g c =
    let b = c.args.self.now in let i = c.loop.invariant in let s = c.loop.first.place in let t = c.split_seat-place.ensures in
    let New : Seat g.row.V.Denot g.row.V-Base.Denot → Type 0 = λ x. IsFresh b.table.shared.table_id (base_of b) b.plan 0 x.place in record {
      count = omega (arith, i.count, c.in_ok-push.ensures.len);
      fresh = subst (λ (xs : List (Seat g.row.V.Denot g.row.V-Base.Denot)). All New xs) (sym c.in_ok-push.ensures.items)
          (All-push New c.loop.all.items _ i.fresh (cut_off b.table.shared.table_id (base_of b) b.plan s _ _ i.first t.3 (ap (λ m. m.0) t.4)));
      first = cut_from b.table.shared.table_id (base_of b) b.plan s _ _ _ i.first t.0 (ap (λ m. m.0) t.2) (omega arith);
    }

pub returns-clause-count : goal.returns-clause-count
returns-clause-count g c = omega (arith, c.loop.invariant.count, c.in_ok-push-2.ensures.len, c.loop-test.false, c.loop.auto.counter, c.loop.auto.counter-end, c.requires.seats)

pub returns-clause-fresh : goal.returns-clause-fresh
returns-clause-fresh g c =
    let b = c.args.self.now in let i = c.loop.invariant in
    let New : Seat g.row.V.Denot g.row.V-Base.Denot → Type 0 = λ x. IsFresh b.table.shared.table_id (base_of b) b.plan 0 x.place in
    subst (λ (xs : List (Seat g.row.V.Denot g.row.V-Base.Denot)). All New xs) (sym c.in_ok-push-2.ensures.items)
    (All-push New c.loop.all.items _ i.fresh (cut_last b.table.shared.table_id (base_of b) b.plan c.loop.first.place _ i.first (omega (arith, c.loop-test.false))))
