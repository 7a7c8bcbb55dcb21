-- The edges out of each module, gathered edge by edge.
use Rattle.std.proofs.Common.{◌≡◌, ℕ, ◌+◌, ◌<◌, ◌≢◌, List, [], ◌∷◌, ◌++◌, length, take, get_or, set, sym, refl, ap, subst, ◌∙◌, inl, inr, arith, append_assoc, length-append, length-set, get_or-set_same, get_or-set_other}
use mathlib.Core.Logic.{dite}
use mathlib.Core.List.{append-nil}
use native.Mathlib.Decide.{ℕ_discrete}
use Rattle.std.proofs.lemmas.List.{get_or_append_left, get_or_push, take_more}
use Rattle.bq_board_plan.specs.Counts.{times, Has}
use Rattle.bq_board_plan.specs.Graph.{Loads, row, sources}
use Rattle.bq_board_plan.specs.Plan.{start, OutsOf, IsOut}
use Rattle.bq_board_plan.proofs.Sums.{times_same, times_other, Has_snoc, Has_more}
use Rattle.bq_board_plan.proofs.Edges.{edges_sum}

pub outs_none : (n : ℕ) (outs : Loads) → length outs ≡ n → ((m : ℕ) → row outs m ≡ []) → OutsOf [] n outs
outs_none n outs wide h = record {
  wide = wide;
  leaves = λ l e had. absurd (omega (arith, ap (times e) (h l)));
  all = λ e lt. absurd (omega arith);
  once = λ l e. omega (arith, ap (times e) (h l));
}

-- one more edge, out of x
module _ (srcs : List ℕ) (n : ℕ) (outs : Loads) (o : OutsOf srcs n outs) (x : ℕ) (lt : x < n) (r : List ℕ) (is : r ≡ row outs x ++ length srcs ∷ []) where
  at_x : row (set outs x r) x ≡ row outs x ++ length srcs ∷ []
  at_x = get_or-set_same outs x r [] (omega (arith, o.wide)) ∙ is

  elsewhere : (l : ℕ) → l ≢ x → row (set outs x r) l ≡ row outs l
  elsewhere l ne = get_or-set_other outs x l r [] ne

  long : length (srcs ++ x ∷ []) ≡ length srcs + 1
  long = length-append srcs (x ∷ [])

  new_source : get_or (srcs ++ x ∷ []) (length srcs) 0 ≡ x
  new_source = get_or_push srcs x 0 (length srcs) refl

  old_source : (e : ℕ) → e < length srcs → get_or (srcs ++ x ∷ []) e 0 ≡ get_or srcs e 0
  old_source e h = get_or_append_left srcs (x ∷ []) 0 e h

  unseen : (l : ℕ) → times (length srcs) (row outs l) ≡ 0
  unseen l = dite (ℕ_discrete (times (length srcs) (row outs l)) 0) (λ z. z) (λ nz. absurd (omega (arith, (o.leaves l (length srcs) (omega arith)).0)))

  old_leaves : (l e : ℕ) → Has (row outs l) e → (e < length (srcs ++ x ∷ [])) × (get_or (srcs ++ x ∷ []) e 0 ≡ l)
  old_leaves l e had = let q = o.leaves l e had in (omega (arith, long, q.0), old_source e q.0 ∙ q.1)

  x_leaves : (e : ℕ) → Has (row outs x ++ length srcs ∷ []) e → (e < length (srcs ++ x ∷ [])) × (get_or (srcs ++ x ∷ []) e 0 ≡ x)
  x_leaves e had = elim (Has_snoc (row outs x) (length srcs) e had) [
    | inl old ↦ old_leaves x e old
    | inr same ↦ (omega (arith, long), ap (λ d. get_or (srcs ++ x ∷ []) d 0) (sym same) ∙ new_source)
  ]

  pub outs_more : OutsOf (srcs ++ x ∷ []) n (set outs x r)
  outs_more = record {
    wide = length-set outs x r ∙ o.wide;
    leaves = λ l e had. dite (ℕ_discrete l x)
        (λ same. let got = x_leaves e (subst (λ (t : List ℕ). Has t e) (ap (row (set outs x r)) same ∙ at_x) had) in (got.0, got.1 ∙ sym same))
        (λ ne. old_leaves l e (subst (λ (t : List ℕ). Has t e) (elsewhere l ne) had));
    all = λ e h. dite (ℕ_discrete e (length srcs))
        (λ same. let P : ℕ → ℕ → Type 0 = λ l d. Has (row (set outs x r) l) d in
        subst (λ (d : ℕ). P (get_or (srcs ++ x ∷ []) d 0) d) (sym same)
        (subst (λ (l : ℕ). P l (length srcs)) (sym new_source)
        (subst (λ (t : List ℕ). Has t (length srcs)) (sym at_x) (omega (arith, times_same (length srcs) (row outs x))))))
        (λ ne. let below : e < length srcs = omega (arith, long) in let l : ℕ = get_or srcs e 0 in let had : Has (row outs l) e = o.all e below in
        subst (λ (k : ℕ). Has (row (set outs x r) k) e) (sym (old_source e below)) (dite (ℕ_discrete l x)
        (λ same. subst (λ (k : ℕ). Has (row (set outs x r) k) e) (sym same) (subst (λ (t : List ℕ). Has t e) (sym at_x) (Has_more (row outs x) (length srcs) e (subst (λ (k : ℕ). Has (row outs k) e) same had))))
        (λ other. subst (λ (t : List ℕ). Has t e) (sym (elsewhere l other)) had)));
    once = λ l e. dite (ℕ_discrete l x)
        (λ same. let is-row = ap (λ k. times e (row (set outs x r) k)) same ∙ ap (times e) at_x in dite (ℕ_discrete e (length srcs))
        (λ new. let two = ap (λ d. times d (row outs x ++ length srcs ∷ [])) new in omega (arith, is-row, two, times_same (length srcs) (row outs x), unseen x))
        (λ old. omega (arith, is-row, times_other e (row outs x) (length srcs) (λ d. old (sym d)), o.once x e)))
        (λ ne. omega (arith, ap (times e) (elsewhere l ne), o.once l e));
  }

pub sources-snoc : (p : Loads) (r : List ℕ) → sources (p ++ r ∷ []) ≡ sources p ++ r
sources-snoc [] r = append-nil r
sources-snoc (x ∷ xs) r = ap (λ t. x ++ t) (sources-snoc xs r) ∙ sym (append_assoc x (sources xs) r)

pub sources_next : (p : Loads) (m : ℕ) → m < length p → sources (take (m + 1) p) ≡ sources (take m p) ++ row p m
sources_next p m h = ap sources (take_more p m [] h) ∙ sources-snoc (take m p) (row p m)

pub sources_start : (p : Loads) (m : ℕ) → length (sources (take m p)) ≡ start p m
sources_start p m = edges_sum (take m p)

-- what the table has for m are the edges out of it
pub outs_are : (p outs : Loads) (m : ℕ) (es : List ℕ) → OutsOf (sources p) (length p) outs → es ≡ row outs m → IsOut p m es
outs_are p outs m es o is = subst (IsOut p m) (sym is) record {
  leaves = λ e had. o.leaves m e had;
  all = λ e h same. subst (λ (l : ℕ). Has (row outs l) e) same (o.all e h);
  once = λ e. o.once m e;
}
