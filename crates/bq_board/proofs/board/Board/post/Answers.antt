use Rattle.std.proofs.Common.{◌≡◌, ℕ, List, [], ◌∷◌, ◌++◌, length, arith, ap, sym, subst, ◌∙◌}
use Rattle.std.specs.Prelude.{Some, None}
use Rattle.atomic_table.specs.Table.{rest}
use Rattle.bq_board_plan.specs.Counts.{Has}
use Rattle.bq_board_plan.specs.Graph.{Loads}
use Rattle.bq_board.specs.Steps.{with_opened, with_posted}
use Rattle.bq_board_plan.proofs.Sums.{times_same}
use Rattle.bq_board.proofs.Keeps.{opens_edge, posts_edge}
use Rattle.bq_board.proofs.board.Board.post.Goals as goal

pub store-requires : goal.store-requires
store-requires g c = let b = c.args.self.now in let v = c.args.seat.now.place.me.0 in (
  c.requires.seat.table,
  omega arith,
  rw (b.key, c.modules-modules.ensures.count) (opens_edge g.row.V-Base.Denot g.row.V.Denot g.V.Parcel.belongs b.table.shared.key.base.value b.plan b.table.shared.key.seats.value _ _ _ _ c.requires.edge c.requires.claimed
      (λ had. c.requires.once (subst (λ (l : List ℕ). Has l c.args.edge) c.requires.seat.even had))),
)

pub exchange-requires : goal.exchange-requires
exchange-requires g c =
    let long : length c.args.seat.now.place.me.0.plan ≡ length c.args.self.now.plan = ap (λ (q : Loads). length q) c.requires.seat.plan in
    let t = c.store.ensures.2 c.args.edge (omega arith) in (c.store.ensures.0 ∙ c.requires.seat.table, (None, ap (λ m. m.1) t ∙ ap (λ l. (c.args.edge, None) ∷ rest l) (sym (ap (λ m. m.1) t))))

pub store-requires-2 : goal.store-requires-2
store-requires-2 g c =
    let b = c.args.self.now in let v = c.args.seat.now.place.me.0 in let long : length v.plan ≡ length b.plan = ap (λ (q : Loads). length q) c.requires.seat.plan in
    let t = c.store.ensures.2 c.args.edge (omega arith) in
    let is : c.exchange.new.seat.me ≡ (with_opened v c.args.edge, (c.args.edge, Some c.args.parcel) ∷ c.args.seat.now.place.me.1) = c.exchange.ensures.3 ∙ ap (λ m. (m.0, (c.args.edge, Some c.args.parcel) ∷ rest m.1)) t in
    let had : Has (with_opened v c.args.edge).opened c.args.edge = omega (arith, times_same c.args.edge v.opened) in (
      c.exchange.ensures.0 ∙ c.store.ensures.0 ∙ c.requires.seat.table,
      omega arith,
      rw (b.key, c.modules-modules.ensures.count, is) (posts_edge g.row.V-Base.Denot g.row.V.Denot g.V.Parcel.belongs b.table.shared.key.base.value b.plan b.table.shared.key.seats.value _ _ c.args.edge
          (with_opened v c.args.edge) c.args.parcel c.args.seat.now.place.me.1 c.requires.edge had c.requires.once c.requires.belongs),
    )

pub returns-clause-seat : goal.returns-clause-seat
returns-clause-seat g c =
    let v = c.args.seat.now.place.me.0 in let i = c.requires.seat in let long : length v.plan ≡ length c.args.self.now.plan = ap (λ (q : Loads). length q) i.plan in
    let t = c.store.ensures.2 c.args.edge (omega arith) in
    let mid : c.exchange.new.seat.me.0 ≡ with_opened v c.args.edge = ap (λ m. m.0) c.exchange.ensures.3 ∙ ap (λ m. m.0) t in
    let long-mid : length c.exchange.new.seat.me.0.plan ≡ length v.plan = ap (λ w. length w.plan) mid in
    let last : c.store-2.new.seat.me.0 ≡ with_posted (with_opened v c.args.edge) c.args.edge = ap (λ m. m.0) (c.store-2.ensures.2 c.args.edge (omega arith)) ∙ ap (λ w. with_posted w c.args.edge) mid in record {
      table = c.store-2.ensures.0 ∙ c.exchange.ensures.0 ∙ c.store.ensures.0 ∙ i.table;
      base = ap (λ w. w.base) last ∙ i.base;
      plan = ap (λ w. w.plan) last ∙ i.plan;
      even = ap (λ w. w.opened) last ∙ ap (λ l. l ++ c.args.edge ∷ []) i.even ∙ sym (ap (λ w. w.posted) last);
    }
