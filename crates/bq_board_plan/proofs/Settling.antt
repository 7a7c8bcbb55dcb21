-- One turn of the sort, step by step.
use Rattle.std.proofs.Common.{◌≡◌, ℕ, ◌+◌, ◌-◌, ◌<◌, ◌≤◌, ◌==◌, List, [], ◌∷◌, ◌++◌, length, take, drop, get_or, set, cond, sym, refl, ap, subst, ◌∙◌, arith, append_assoc, length-set, get_or-set_same, get_or-set_other, eq-eqb, ne_eqb}
use mathlib.Core.Logic.{dite}
use native.Mathlib.Decide.{ℕ_discrete}
use Rattle.std.proofs.lemmas.List.{append-nil, take-append-drop, take_more}
use Rattle.bq_board_plan.specs.Counts.{times, Has}
use Rattle.bq_board_plan.specs.Sorting.{Settles}
use Rattle.bq_board_plan.specs.Topological.{is_zero}
use Rattle.bq_board_plan.proofs.Sums.{total-append, times_same, times_other}

pub at_zero : (n : ℕ) → n ≡ 0 → is_zero n ≡ 1
at_zero n e = ap (λ b. cond b 1 0) (eq-eqb n 0 e)

pub not_zero : (n : ℕ) → 0 < n → is_zero n ≡ 0
not_zero n h = ap (λ b. cond b 1 0) (ne_eqb n 0 (λ e. absurd (omega arith)))

pub settle_none : (pending order : List ℕ) → Settles [] pending pending order order
settle_none pending order = record {
  wide = refl;
  less = λ u. omega arith;
  more = ([], sym (append-nil order), λ u. omega arith);
}

less_more : (us pending left : List ℕ) (x a : ℕ) → ((u : ℕ) → get_or left u 0 + times u us ≡ get_or pending u 0) → x < length left → get_or left x 0 ≡ a + 1
    → (u : ℕ) → get_or (set left x a) u 0 + times u (us ++ x ∷ []) ≡ get_or pending u 0
less_more us pending left x a h lt e u = dite (ℕ_discrete u x)
    (λ same. let at : get_or (set left x a) u 0 ≡ a = ap (λ v. get_or (set left x a) v 0) same ∙ get_or-set_same left x a 0 lt in
    let was : get_or left u 0 ≡ a + 1 = ap (λ v. get_or left v 0) same ∙ e in
    let n : times u (us ++ x ∷ []) ≡ times u us + 1 = ap (λ v. times u (us ++ v ∷ [])) (sym same) ∙ times_same u us in
    omega (arith, h u))
    (λ ne. let at : get_or (set left x a) u 0 ≡ get_or left u 0 = get_or-set_other left x u a 0 ne in
    let n : times u (us ++ x ∷ []) ≡ times u us = times_other u us x (λ d. ne (sym d)) in
    omega (arith, h u))

-- the dependent has an open load left
pub settle_open : (us pending left order grown : List ℕ) (x a : ℕ) → Settles us pending left order grown → x < length pending → get_or left x 0 ≡ a + 1 → 0 < a
    → Settles (us ++ x ∷ []) pending (set left x a) order grown
settle_open us pending left order grown x a s lt e pos = record {
  wide = length-set left x a ∙ s.wide;
  less = less_more us pending left x a s.less (omega (arith, s.wide)) e;
  more = (
    s.more.0,
    s.more.1,
    λ u. dite (ℕ_discrete u x)
        (λ same. let at : get_or (set left x a) u 0 ≡ a = ap (λ v. get_or (set left x a) v 0) same ∙ get_or-set_same left x a 0 (omega (arith, s.wide)) in
        let was : get_or left u 0 ≡ a + 1 = ap (λ v. get_or left v 0) same ∙ e in
        omega (arith, s.more.2 u, not_zero (get_or left u 0) (omega arith), not_zero (get_or (set left x a) u 0) (omega arith)))
        (λ ne. s.more.2 u ∙ ap is_zero (sym (get_or-set_other left x u a 0 ne))),
  );
}

-- it has none left, and joins
pub settle_joins : (us pending left order grown : List ℕ) (x a : ℕ) → Settles us pending left order grown → x < length pending → get_or left x 0 ≡ a + 1 → a ≡ 0
    → Settles (us ++ x ∷ []) pending (set left x a) order (grown ++ x ∷ [])
settle_joins us pending left order grown x a s lt e none = record {
  wide = length-set left x a ∙ s.wide;
  less = less_more us pending left x a s.less (omega (arith, s.wide)) e;
  more = (
    s.more.0 ++ x ∷ [],
    ap (λ g. g ++ x ∷ []) s.more.1 ∙ append_assoc order s.more.0 (x ∷ []),
    λ u. dite (ℕ_discrete u x)
        (λ same. let at : get_or (set left x a) u 0 ≡ a = ap (λ v. get_or (set left x a) v 0) same ∙ get_or-set_same left x a 0 (omega (arith, s.wide)) in
        let was : get_or left u 0 ≡ a + 1 = ap (λ v. get_or left v 0) same ∙ e in
        let n : times u (s.more.0 ++ x ∷ []) ≡ times u s.more.0 + 1 = ap (λ v. times u (s.more.0 ++ v ∷ [])) (sym same) ∙ times_same u s.more.0 in
        omega (arith, s.more.2 u, n, not_zero (get_or left u 0) (omega arith), at_zero (get_or (set left x a) u 0) (omega arith)))
        (λ ne. let at : get_or (set left x a) u 0 ≡ get_or left u 0 = get_or-set_other left x u a 0 ne in
        let n : times u (s.more.0 ++ x ∷ []) ≡ times u s.more.0 = times_other u s.more.0 x (λ d. ne (sym d)) in
        omega (arith, s.more.2 u, n, ap is_zero at)),
  );
}

pub times_take-le : (x n : ℕ) (us : List ℕ) → times x (take n us) ≤ times x us
times_take-le x n us = let e = total-append (λ y. cond (y == x) 1 0) (take n us) (drop n us) in
    let d : times x (take n us ++ drop n us) ≡ times x us = ap (times x) (take-append-drop n us) in omega arith

pub times_take_more : (us : List ℕ) (i x : ℕ) → i < length us → times x (take (i + 1) us) ≡ times x (take i us ++ get_or us i 0 ∷ [])
times_take_more us i x h = ap (times x) (take_more us i 0 h)

pub Has-get_or : (us : List ℕ) (i : ℕ) → i < length us → Has us (get_or us i 0)
Has-get_or us i h = omega (arith, times_take_more us i (get_or us i 0) h, times_same (get_or us i 0) (take i us), times_take-le (get_or us i 0) (i + 1) us)

-- a dependent that is still to come has an open load
pub dependent_open : (us pending left order grown : List ℕ) (i : ℕ) → Settles (take i us) pending left order grown → ((u : ℕ) → times u us ≤ get_or pending u 0) → i < length us → 1 ≤ get_or left (get_or us i 0) 0
dependent_open us pending left order grown i s many h =
    let x : ℕ = get_or us i 0 in
    omega (arith, s.less x, many x, times_take_more us i x h, times_same x (take i us), times_take-le x (i + 1) us)

-- the turn of the dependent at i, whose count was v
pub turn_open : (us pending left order grown : List ℕ) (i v : ℕ) → Settles (take i us) pending left order grown → i < length us → get_or us i 0 < length pending → v ≡ get_or left (get_or us i 0) 0 → 1 ≤ v → 0 < v - 1
    → (g : List ℕ) → g ≡ grown → Settles (take (i + 1) us) pending (set left (get_or us i 0) (v - 1)) order g
turn_open us pending left order grown i v s h k e one pos g same =
    let P : List ℕ → Type 0 = λ t. Settles t pending (set left (get_or us i 0) (v - 1)) order g in
    let Q : List ℕ → Type 0 = λ t. Settles (take i us ++ get_or us i 0 ∷ []) pending (set left (get_or us i 0) (v - 1)) order t in
    subst P (sym (take_more us i 0 h)) (subst Q (sym same) (settle_open (take i us) pending left order grown (get_or us i 0) (v - 1) s k (omega arith) pos))

pub turn_joins : (us pending left order grown : List ℕ) (i v : ℕ) → Settles (take i us) pending left order grown → i < length us → get_or us i 0 < length pending → v ≡ get_or left (get_or us i 0) 0 → 1 ≤ v → v - 1 ≡ 0
    → (g : List ℕ) → g ≡ grown ++ get_or us i 0 ∷ [] → Settles (take (i + 1) us) pending (set left (get_or us i 0) (v - 1)) order g
turn_joins us pending left order grown i v s h k e one pos g same =
    let P : List ℕ → Type 0 = λ t. Settles t pending (set left (get_or us i 0) (v - 1)) order g in
    let Q : List ℕ → Type 0 = λ t. Settles (take i us ++ get_or us i 0 ∷ []) pending (set left (get_or us i 0) (v - 1)) order t in
    subst P (sym (take_more us i 0 h)) (subst Q (sym same) (settle_joins (take i us) pending left order grown (get_or us i 0) (v - 1) s k (omega arith) pos))
