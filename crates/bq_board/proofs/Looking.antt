-- What a claim has seen so far.
use Rattle.std.proofs.Common.{◌≡◌, ℕ, ◌+◌, ◌<◌, ◌≤◌, List, [], ◌∷◌, ◌++◌, sym, ap, ◌∙◌, subst, arith, cond, eqb, append_assoc}
use mathlib.Core.List.{append-nil}
use mathlib.Core.Logic.{dite}
use native.Mathlib.Decide.{ℕ_discrete}
use Rattle.bq_board_plan.specs.Counts.{Has}
use Rattle.bq_board_plan.specs.Plan.{start}
use Rattle.bq_board.specs.Steps.{with_seen, Fed}
use Rattle.bq_board.specs.Claims.{Saw}
use Rattle.bq_board.specs.declared.view.View.{View}
use Rattle.bq_board_plan.proofs.Sums.{total-append, times_more, at_same, Has_more}

module _ {B : Type 0} where
  pub saw_none : (v : View B) → Saw v v
  saw_none v = ([], ap (λ (es : List ℕ). record v { seen = es }) (sym (append-nil v.seen)))

  pub saw_more : (v u w : View B) (e : ℕ) → Saw v u → w ≡ with_seen u e → Saw v w
  saw_more v u w e t is = (t.0 ++ e ∷ [], is ∙ ap (λ (x : View B). with_seen x e) t.1 ∙ ap (λ (es : List ℕ). record v { seen = es }) (append_assoc v.seen t.0 (e ∷ [])))

times_case : (ys : List ℕ) (d e : ℕ) → (d < e → Has ys d) → d < e + 1 → Has (ys ++ e ∷ []) d
times_case ys d e old high = dite (ℕ_discrete d e) (λ is. omega (arith, times_more d ys e, at_same d e (sym is))) (λ ne. Has_more ys e d (old (omega arith)))

pub fed_more : {B : Type 0} (u w : View B) (from e : ℕ) → w ≡ with_seen u e → ((d : ℕ) → from ≤ d → d < e → Has u.seen d) → (d : ℕ) → from ≤ d → d < e + 1 → Has w.seen d
fed_more {B} u w from e is old d low high = subst (λ (x : View B). Has x.seen d) (sym is) (times_case u.seen d e (λ l. old d low l) high)

pub fed_whole : {B : Type 0} (v : View B) (m from to : ℕ) → from ≡ start v.plan m → to ≡ start v.plan (m + 1) → ((d : ℕ) → from ≤ d → d < to → Has v.seen d) → Fed v m
fed_whole v m from to f t h e into = omega (arith, h e (omega arith) (omega arith), total-append (λ y. cond (eqb y e) 1 0) v.seen v.posted)
