-- What a worker brought, module after module.
use Rattle.std.proofs.Common.{◌≡◌, ℕ, ◌<◌, List, [], ◌∷◌, ◌++◌, length, map, get_or, sym, ap, subst, ◌∙◌, arith, Option, Some}
use Rattle.std.specs.Prelude.{IfSome}
use Rattle.std.proofs.lemmas.List.{map_push, append-nil, append_assoc}
use Rattle.std.proofs.lemmas.List.Elements.{All-push}
use Rattle.bq_board.specs.Counts.{Has}
use Rattle.bq_board.specs.Steps.{with_count}
use Rattle.bq_board.specs.declared.view.View.{View}
use Rattle.bq_board.proofs.Lemmas.{times_same}
use Rattle.bq_load_order.specs.declared.outcome.Outcome.{Outcome}
use Rattle.bq_load_order.specs.SharedOutcomes.{shown}
use Rattle.bq_load_workers.specs.Brought.{AreRight, Brought}
use Rattle.bq_load_workers.specs.declared.pool.FinishedModule.{FinishedModule}

module _ {M N V F : Type 0} (see : M → V) (see_fault : N → F) (out : ℕ → Outcome V F) (n : ℕ) where
  pub brought_none : (fs : List ℕ) → Brought see see_fault out n fs fs []
  brought_none fs = record { joined = sym (append-nil fs); right = λ k d h. absurd (omega arith) }

  pub brought_more : (before fs gs : List ℕ) (es : List (FinishedModule M N)) (e : FinishedModule M N) → Brought see see_fault out n before fs es → gs ≡ fs ++ e.number ∷ [] → e.number < n → shown see see_fault e.outcome ≡ out e.number
      → Brought see see_fault out n before gs (es ++ e ∷ [])
  brought_more before fs gs es e b more known is = record {
    joined = more ∙ ap (λ xs. xs ++ e.number ∷ []) b.joined ∙ append_assoc before (map (λ x. x.number) es) (e.number ∷ []) ∙ sym (ap (λ xs. before ++ xs) (map_push (λ x. x.number) es e));
    right = All-push (λ x. (x.number < n) × (shown see see_fault x.outcome ≡ out x.number)) es e b.right (known, is);
  }

  pub right_item : (es : List (FinishedModule M N)) (i : ℕ) → AreRight see see_fault out n es → i < length es → (e : FinishedModule M N) → e ≡ get_or es i e → (e.number < n) × (shown see see_fault e.outcome ≡ out e.number)
  right_item es i right h e read = let P : FinishedModule M N → Type 0 = λ x. (x.number < n) × (shown see see_fault x.outcome ≡ out x.number) in subst P (sym read) (right i e h)

pub if_some : {A : Type 0} (P : A → Type 0) (o : Option A) (x : A) → o ≡ Some x → IfSome o P → P x
if_some {A} P o x k h = let F : Option A → Type 0 = λ t. IfSome t P in subst F k h

-- the number that `done` returned joins the counts
pub counted_all : {B : Type 0} (v w : View B) (r n : ℕ) → w ≡ with_count v r → r ≡ n → Has w.counts n
counted_all {B} v w r n is e = let here : Has (v.counts ++ r ∷ []) r = omega (arith, times_same r v.counts) in
    subst (λ (k : ℕ). Has w.counts k) e (subst (λ (ts : List ℕ). Has ts r) (sym (ap (λ u. u.counts) is)) here)
