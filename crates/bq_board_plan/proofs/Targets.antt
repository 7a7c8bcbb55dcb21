-- The targets of edges, gathered module by module.
use Rattle.std.proofs.Common.{◌≡◌, ℕ, zero, suc, ◌+◌, ◌-◌, ◌<◌, List, [], ◌++◌, length, get_or, sym, refl, ap, subst, ◌∙◌, arith, length-append}
use Rattle.std.specs.Prelude.{replicate}
use Rattle.std.proofs.lemmas.List.{get_or_append_left, get_or-append_right, length-replicate}
use mathlib.Core.Logic.{dite}
use native.Mathlib.Decide.{dec_lt}
use Rattle.bq_board_plan.specs.Graph.{Loads, row, edges}
use Rattle.bq_board_plan.specs.Plan.{start, Into, HasTargets, TargetsBelow}
use Rattle.bq_board_plan.proofs.Edges.{start_none, start_next, start_whole}

times_over : (n i x : ℕ) → i < n → get_or (replicate n x) i 0 ≡ x
times_over zero i x h = absurd (omega arith)
times_over (suc n) zero x h = refl
times_over (suc n) (suc i) x h = times_over n i x (omega arith)

pub targets_none : (p : Loads) → TargetsBelow p 0 []
targets_none p = record { wide = sym (start_none p); at = λ e h. absurd (omega (arith, start_none p)) }

pub targets_more : (p : Loads) (m : ℕ) (ts us : List ℕ) (n : ℕ) → TargetsBelow p m ts → m < length p → n ≡ length (row p m) → us ≡ ts ++ replicate n m → TargetsBelow p (m + 1) us
targets_more p m ts us n t h is same =
    let next : start p (m + 1) ≡ start p m + n = omega (arith, start_next p m h, is) in
    let P : List ℕ → Type 0 = λ xs. TargetsBelow p (m + 1) xs in subst P (sym same) record {
      wide = omega (arith, length-append ts (replicate n m), length-replicate n m, t.wide);
      at = λ e lt. dite (dec_lt e (length ts))
          (λ old. let q = t.at e (omega (arith, t.wide)) in let here = get_or_append_left ts (replicate n m) 0 e old in
          subst (λ (k : ℕ). (k < m + 1) × Into p k e) (sym here) (omega (arith, q.0), q.1))
          (λ new. let here : get_or (ts ++ replicate n m) e 0 ≡ m = get_or-append_right ts (replicate n m) (length ts) e 0 refl (omega arith) ∙ times_over n (e - length ts) m (omega (arith, t.wide)) in
          subst (λ (k : ℕ). (k < m + 1) × Into p k e) (sym here) (omega arith, (omega (arith, t.wide), lt)));
    }

pub targets_all : (p : Loads) (m : ℕ) (ts : List ℕ) → m ≡ length p → TargetsBelow p m ts → HasTargets p ts
targets_all p m ts e t = let last : start p m ≡ edges p = ap (start p) e ∙ start_whole p in record {
  wide = t.wide ∙ last;
  at = λ d h. let q = t.at d (omega (arith, last)) in (omega (arith, q.0), q.1);
}
