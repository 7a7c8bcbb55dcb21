use Rattle.std.proofs.Common.{◌≡◌, ◌∷◌, length, refl, arith, ap, sym, subst, ◌∙◌}
use Rattle.std.specs.Prelude.{Some, IsSome}
use Rattle.atomic_table.specs.Table.{rest}
use Rattle.bq_board_plan.specs.Graph.{Loads}
use Rattle.bq_board.specs.Steps.{with_fetched}
use Rattle.bq_board.proofs.Keeps.{fetches_edge}
use Rattle.bq_board.proofs.Hands.{head_is, some_is, carry}
use Rattle.bq_board.proofs.board.Board.fetch.Goals as goal

pub store-requires : goal.store-requires
store-requires g c = let b = c.args.self.now in let t = c.requires.claimed in
    (c.requires.seat.table, omega arith, rw (b.key, c.modules-modules.ensures.count) (fetches_edge g.row.V-Base.Denot g.row.V.Denot g.V.Parcel.belongs b.table.shared.key.base.value b.plan b.table.shared.key.seats.value _ _ _ t.0 _ c.requires.edge t.1 t.2 c.requires.once))

pub exchange-requires : goal.exchange-requires
exchange-requires g c =
    let long : length c.args.seat.now.place.me.0.plan ≡ length c.args.self.now.plan = ap (λ (q : Loads). length q) c.requires.seat.plan in
    let t = c.store.ensures.2 c.args.edge (omega arith) in (c.store.ensures.0 ∙ c.requires.seat.table, (Some t.0, ap (λ m. m.1) t.1 ∙ ap (λ l. (c.args.edge, Some t.0) ∷ rest l) (sym (ap (λ m. m.1) t.1))))

pub unwrap-requires : goal.unwrap-requires
unwrap-requires g c =
    let long : length c.args.seat.now.place.me.0.plan ≡ length c.args.self.now.plan = ap (λ (q : Loads). length q) c.requires.seat.plan in
    let t = c.store.ensures.2 c.args.edge (omega arith) in let got : Some t.0 ≡ c.exchange.result = head_is c.args.edge (Some t.0) c.exchange.result _ _ _ (ap (λ m. m.1) t.1) c.exchange.ensures.2 in subst IsSome got refl

pub returns-clause-seat : goal.returns-clause-seat
returns-clause-seat g c =
    let long : length c.args.seat.now.place.me.0.plan ≡ length c.args.self.now.plan = ap (λ (q : Loads). length q) c.requires.seat.plan in let i = c.requires.seat in
    let t = c.store.ensures.2 c.args.edge (omega arith) in let is : c.exchange.new.seat.me.0 ≡ with_fetched c.args.seat.now.place.me.0 c.args.edge = ap (λ m. m.0) c.exchange.ensures.3 ∙ ap (λ m. m.0) t.1 in record {
      table = c.exchange.ensures.0 ∙ c.store.ensures.0 ∙ i.table;
      base = ap (λ v. v.base) is ∙ i.base;
      plan = ap (λ v. v.plan) is ∙ i.plan;
      even = ap (λ v. v.opened) is ∙ i.even ∙ sym (ap (λ v. v.posted) is);
    }

pub returns-clause-fetched : goal.returns-clause-fetched
returns-clause-fetched g c =
    let long : length c.args.seat.now.place.me.0.plan ≡ length c.args.self.now.plan = ap (λ (q : Loads). length q) c.requires.seat.plan in
    let t = c.store.ensures.2 c.args.edge (omega arith) in ap (λ m. m.0) c.exchange.ensures.3 ∙ ap (λ m. m.0) t.1

pub returns-clause-belongs : goal.returns-clause-belongs
returns-clause-belongs g c =
    let long : length c.args.seat.now.place.me.0.plan ≡ length c.args.self.now.plan = ap (λ (q : Loads). length q) c.requires.seat.plan in
    let t = c.store.ensures.2 c.args.edge (omega arith) in let got : Some t.0 ≡ c.exchange.result = head_is c.args.edge (Some t.0) c.exchange.result _ _ _ (ap (λ m. m.1) t.1) c.exchange.ensures.2 in
    carry g.V.Parcel.belongs _ _ _ _ c.args.edge t.0 c.unwrap.result c.requires.seat.base c.requires.seat.plan (some_is t.0 c.unwrap.result (got ∙ c.unwrap.ensures)) t.2
