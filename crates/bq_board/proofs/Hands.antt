-- The slot that a seat took last.
use Rattle.std.proofs.Common.{◌≡◌, ℕ, List, ◌∷◌, get_or, sym, ap, subst, ◌∙◌}
use Rattle.std.specs.Prelude.{Option, Some}
use Rattle.std.specs.Option.{unwrap_or}
use Rattle.atomic_table.specs.Seated.{TableId}
use Rattle.atomic_table.specs.declared.shared.Seat.{Seat as Place}
use Rattle.bq_board_plan.specs.Graph.{Loads}
use Rattle.bq_board_plan.specs.Plan.{source}
use Rattle.bq_board.specs.Seats.{SitsAt}
use Rattle.bq_board.specs.declared.view.View.{View}

pub head_is : {A : Type 0} (e : ℕ) (x y : A) (l m n : List (ℕ × A)) → l ≡ (e, x) ∷ m → l ≡ (e, y) ∷ n → x ≡ y
head_is {A} e x y l m n p q = ap (λ (z : List (ℕ × A)). (get_or z 0 (e, x)).1) (sym p ∙ q)

pub some_is : {A : Type 0} (x y : A) → Some x ≡ Some y → x ≡ y
some_is x y e = ap (λ o. unwrap_or o x) e

pub carry : {B V : Type 0} (fact : B → ℕ → V → Type 0) (b c : B) (p q : Loads) (e : ℕ) (x y : V) → b ≡ c → p ≡ q → x ≡ y → fact b (source p e) x → fact c (source q e) y
carry {B} {V} fact b c p q e x y i j k h = subst (λ (z : B × Loads × V). fact z.0 (source z.1 e) z.2) (λ n. (i n, j n, k n)) h

-- a seat whose view is w, which has v's plan, base and posts
pub sits_still : {B V : Type 0} (z : TableId) (b : B) (p : Loads) (s t : Place (Option V) (View B)) (w : View B) → SitsAt z b p s → t.table_id ≡ s.table_id → t.me.0 ≡ w
    → w.base ≡ s.me.0.base → w.plan ≡ s.me.0.plan → w.opened ≡ s.me.0.opened → w.posted ≡ s.me.0.posted → SitsAt z b p t
sits_still {B} z b p s t w i tid is hb hp ho hq = record {
  table = tid ∙ i.table;
  base = ap (λ (v : View B). v.base) is ∙ hb ∙ i.base;
  plan = ap (λ (v : View B). v.plan) is ∙ hp ∙ i.plan;
  even = ap (λ (v : View B). v.opened) is ∙ ho ∙ i.even ∙ sym (ap (λ (v : View B). v.posted) is ∙ hq);
}
