-- The seats that are cut when a board is opened.
use Rattle.std.proofs.Common.{◌≡◌, ℕ, ◌-◌, sym, ap, ◌∙◌}
use Rattle.std.specs.Prelude.{Option}
use Rattle.atomic_table.specs.Seated.{TableId}
use Rattle.atomic_table.specs.declared.shared.Seat.{Seat as Place}
use Rattle.bq_board_plan.specs.Graph.{Loads}
use Rattle.bq_board.specs.Board.{blank, blank_with}
use Rattle.bq_board.specs.Seats.{SitsAt}
use Rattle.bq_board.specs.declared.view.View.{View}

module _ {B V : Type 0} (z : TableId) (b : B) (p : Loads) where
  -- the place is at the table and has done nothing; a number of seats may be split off from it
  abbrev pub IsFresh : ℕ → Place (Option V) (View B) → Type 0
  IsFresh n s = SitsAt z b p s × (s.me.0 ≡ blank_with b p n)

  fresh : (s : Place (Option V) (View B)) (n : ℕ) → s.table_id ≡ z → s.me.0 ≡ blank_with b p n → IsFresh n s
  fresh s n at is = (record { table = at; base = ap (λ v. v.base) is; plan = ap (λ v. v.plan) is; even = ap (λ v. v.opened) is ∙ sym (ap (λ v. v.posted) is) }, is)

  -- the seat that was cut from, and the new one
  pub cut_from : (s t : Place (Option V) (View B)) (n m : ℕ) → IsFresh n s → t.table_id ≡ s.table_id → t.me.0 ≡ record s.me.0 { spare = s.me.0.spare - 1 } → n - 1 ≡ m → IsFresh m t
  cut_from s t n m f at is less = fresh t m (at ∙ f.0.table) (is ∙ ap (λ (v : View B). record v { spare = v.spare - 1 }) f.1 ∙ ap (blank_with b p) less)

  pub cut_off : (s t : Place (Option V) (View B)) (n : ℕ) → IsFresh n s → t.table_id ≡ s.table_id → t.me.0 ≡ blank s.me.0.base s.me.0.plan → IsFresh 0 t
  cut_off s t n f at is = fresh t 0 (at ∙ f.0.table) (is ∙ ap (λ (v : View B). blank v.base v.plan) f.1)

  pub cut_last : (s : Place (Option V) (View B)) (n : ℕ) → IsFresh n s → n ≡ 0 → IsFresh 0 s
  cut_last s n f e = (f.0, f.1 ∙ ap (blank_with b p) e)
