-- One turn of the sort keeps its invariant, and the end of the sort.
use Rattle.std.proofs.Common.{◌≡◌, ℕ, ◌+◌, ◌-◌, ◌<◌, ◌≤◌, List, [], ◌∷◌, ◌++◌, length, take, get_or, sym, refl, ap, subst, ◌∙◌, arith, length-append}
use mathlib.Core.Logic.{dite}
use native.Mathlib.Decide.{ℕ_discrete, dec_lt}
use Rattle.std.proofs.lemmas.List.{take_more, take-append-le, take-take, get_or_past, get_or_append_left, get_or-append_right, take_all}
use Rattle.bq_board_plan.specs.Counts.{times, Has}
use Rattle.bq_board_plan.specs.Graph.{Loads, row, Known}
use Rattle.bq_board_plan.specs.Sorting.{Settles, Sorting, IsDependents, closed}
use Rattle.bq_board_plan.specs.Topological.{IsTopologicalOrder, is_zero}
use Rattle.bq_board_plan.proofs.Sums.{total-append, times_more, one_at, at_same, at_other, length_times, below_le}
use Rattle.bq_board_plan.proofs.Settling.{at_zero, not_zero, times_take-le, Has-get_or}

pub is_zero-le : (n : ℕ) → is_zero n ≤ 1
is_zero-le n = dite (ℕ_discrete n 0) (λ e. omega (arith, at_zero n e)) (λ ne. omega (arith, not_zero n (omega arith)))

pub zero_from : (n : ℕ) → 0 < is_zero n → n ≡ 0
zero_from n h = dite (ℕ_discrete n 0) (λ e. e) (λ ne. absurd (omega (arith, not_zero n (omega arith))))

pub positive_from : (n : ℕ) → is_zero n ≡ 0 → 0 < n
positive_from n h = dite (ℕ_discrete n 0) (λ e. absurd (omega (arith, at_zero n e))) (λ ne. omega arith)

-- an entry more that is closed
pub closed_push : (ms xs : List ℕ) (m : ℕ) → closed (ms ++ m ∷ []) xs ≡ closed ms xs + times m xs
closed_push ms [] m = omega arith
closed_push ms (x ∷ xs) m = dite (ℕ_discrete x m)
    (λ e. omega (arith, closed_push ms xs m, times_more x ms m, at_same x m (sym e), at_same m x e))
    (λ ne. omega (arith, closed_push ms xs m, times_more x ms m, at_other x m (λ d. ne (sym d)), at_other m x ne))

head_in : (x : ℕ) (xs : List ℕ) → Has (x ∷ xs) x
head_in x xs = omega (arith, at_same x x refl)

tail_in : (x : ℕ) (xs : List ℕ) (l : ℕ) → Has xs l → Has (x ∷ xs) l
tail_in x xs l h = omega arith

-- where each occurs at most once, no more are closed than there are
pub closed_le : (ms xs : List ℕ) → ((l : ℕ) → Has xs l → times l ms ≤ 1) → closed ms xs ≤ length xs
closed_le ms [] h = omega arith
closed_le ms (x ∷ xs) h = omega (arith, h x (head_in x xs), closed_le ms xs (λ l k. h l (tail_in x xs l k)))

-- where all are closed, each is
pub all_closed : (ms xs : List ℕ) → ((l : ℕ) → Has xs l → times l ms ≤ 1) → closed ms xs ≡ length xs → (l : ℕ) → Has xs l → Has ms l
all_closed ms [] h e l k = absurd (omega arith)
all_closed ms (x ∷ xs) h e l k = dite (ℕ_discrete x l)
    (λ s. subst (Has ms) s (omega (arith, h x (head_in x xs), closed_le ms xs (λ j t. h j (tail_in x xs j t)))))
    (λ ne. all_closed ms xs (λ j t. h j (tail_in x xs j t)) (omega (arith, h x (head_in x xs), closed_le ms xs (λ j t. h j (tail_in x xs j t)))) l (omega (arith, at_other l x ne)))

-- where fewer are closed, one is open
pub some_open : (ms xs : List ℕ) → closed ms xs < length xs → (l : ℕ) × Has xs l × (times l ms ≡ 0)
some_open ms [] h = absurd (omega arith)
some_open ms (x ∷ xs) h = dite (ℕ_discrete (times x ms) 0)
    (λ e. (x, head_in x xs, e))
    (λ ne. let r = some_open ms xs (omega arith) in (r.0, tail_in x xs r.0 r.1, r.2))

pub times_take_mono : (x n k : ℕ) (us : List ℕ) → n ≤ k → times x (take n us) ≤ times x (take k us)
times_take_mono x n k us h = let e : times x (take n (take k us)) ≡ times x (take n us) = ap (times x) (take-take n k us h) in omega (arith, times_take-le x n (take k us))

module _ (p : Loads) (known : Known p) (at : ℕ) (order pending : List ℕ) (d : Sorting p at order pending) where
  pub at_most_once : (l : ℕ) → l < length p → times l order ≤ 1
  at_most_once l h = omega (arith, d.once l h, is_zero-le (get_or pending l 0))

  pub few : length order ≤ length p
  few = omega (arith, length_times (length p) order d.within, below_le (λ k. times k order) (length p) at_most_once)

  in_row : (n u l : ℕ) → Has (row p u) l → times l (take n order) ≤ 1
  in_row n u l h = omega (arith, times_take-le l n order, at_most_once l (known u l h))

  module _ (dependents : List (List ℕ)) (uses : IsDependents p dependents) (more : at < length order) where
    pub dependents_inside : (u : ℕ) → Has (get_or dependents (get_or order at 0) []) u → u < length pending
    dependents_inside u h = omega (arith, uses.known (get_or order at 0) u h, d.wide)

    -- each dependent has at least as many open loads as it loads this module
    pub dependents_open : (u : ℕ) → times u (get_or dependents (get_or order at 0) []) ≤ get_or pending u 0
    dependents_open u = let m : ℕ = get_or order at 0 in dite (dec_lt u (length p))
        (λ lt. let e : closed (take (at + 1) order) (row p u) ≡ closed (take at order ++ m ∷ []) (row p u) = ap (λ t. closed t (row p u)) (take_more order at 0 more) in
        omega (arith, e, closed_push (take at order) (row p u) m, closed_le (take (at + 1) order) (row p u) (λ l h. in_row (at + 1) u l h), d.left u lt, uses.both m u (d.within m (Has-get_or order at more))))
        (λ ge. dite (ℕ_discrete (times u (get_or dependents m [])) 0) (λ z. omega arith) (λ nz. absurd (ge (uses.known m u (omega arith)))))

    module _ (left grown : List ℕ) (s : Settles (get_or dependents (get_or order at 0) []) pending left order grown) where
      times_grown : (u : ℕ) → times u grown ≡ times u order + times u s.more.0
      times_grown u = ap (times u) s.more.1 ∙ total-append (one_at u) order s.more.0

      length_grown : length grown ≡ length order + length s.more.0
      length_grown = ap length s.more.1 ∙ length-append order s.more.0

      fresh_in : (u : ℕ) → Has s.more.0 u → (u < length p) × (get_or left u 0 ≡ 0)
      fresh_in u h = (
        dite (dec_lt u (length p)) (λ lt. lt)
            (λ ge. let past : get_or pending u 0 ≡ 0 = get_or_past pending u 0 (omega (arith, d.wide)) in absurd (omega (arith, s.more.2 u, at_zero (get_or pending u 0) past, is_zero-le (get_or left u 0)))),
        zero_from (get_or left u 0) (omega (arith, s.more.2 u)),
      )

      take_grown : (n : ℕ) → n ≤ length order → take n grown ≡ take n order
      take_grown n h = ap (take n) s.more.1 ∙ take-append-le n order s.more.0 h

      left_next : (u : ℕ) → u < length p → closed (take (at + 1) grown) (row p u) + get_or left u 0 ≡ length (row p u)
      left_next u lt = let m : ℕ = get_or order at 0 in
          let e : closed (take (at + 1) grown) (row p u) ≡ closed (take at order ++ m ∷ []) (row p u) = ap (λ t. closed t (row p u)) (take_grown (at + 1) (omega arith) ∙ take_more order at 0 more) in
          omega (arith, e, closed_push (take at order) (row p u) m, d.left u lt, s.less u, uses.both m u (d.within m (Has-get_or order at more)))

      once_next : (u : ℕ) → u < length p → times u grown ≡ is_zero (get_or left u 0)
      once_next u lt = omega (arith, times_grown u, d.once u lt, s.more.2 u)

      old_after : (i l : ℕ) → i < length order → Has (row p (get_or grown i 0)) l → Has (take i grown) l
      old_after i l lt h = let e : get_or grown i 0 ≡ get_or order i 0 = ap (λ g. get_or g i 0) s.more.1 ∙ get_or_append_left order s.more.0 0 i lt in
          let k : Has (take i order) l = d.after i l lt (subst (λ (m : ℕ). Has (row p m) l) e h) in
          subst (λ (t : List ℕ). Has t l) (sym (take_grown i (omega arith))) k

      new_after : (i l : ℕ) → length order ≤ i → i < length grown → Has (row p (get_or grown i 0)) l → Has (take i grown) l
      new_after i l ge lt h = let u : ℕ = get_or grown i 0 in
          let e : u ≡ get_or s.more.0 (i - length order) 0 = ap (λ g. get_or g i 0) s.more.1 ∙ get_or-append_right order s.more.0 (length order) i 0 refl ge in
          let in_fresh : Has s.more.0 u = subst (Has s.more.0) (sym e) (Has-get_or s.more.0 (i - length order) (omega (arith, length_grown))) in
          let f : (u < length p) × (get_or left u 0 ≡ 0) = fresh_in u in_fresh in
          let all : closed (take (at + 1) grown) (row p u) ≡ length (row p u) = omega (arith, left_next u f.0, f.1) in
          let k : Has (take (at + 1) grown) l = all_closed (take (at + 1) grown) (row p u) (λ j t. omega (arith, times_take-le j (at + 1) grown, once_next j (known u j t), is_zero-le (get_or left j 0))) all l h in
          omega (arith, times_take_mono l (at + 1) i grown (omega arith))

      pub turn : Sorting p (at + 1) grown left
      turn = record {
        at_in = omega (arith, length_grown);
        wide = s.wide ∙ d.wide;
        within = λ u h. dite (ℕ_discrete (times u s.more.0) 0) (λ z. d.within u (omega (arith, times_grown u))) (λ nz. (fresh_in u (omega arith)).0);
        left = left_next;
        once = once_next;
        after = λ i l lt h. dite (dec_lt i (length order)) (λ old. old_after i l old h) (λ new. new_after i l (omega arith) lt h);
      }

  -- at the end of the order
  pub ended : length order ≤ at → IsTopologicalOrder p order pending
  ended h = record {
    wide = d.wide;
    within = d.within;
    once = d.once;
    after = d.after;
    rest = λ u lt pos. let e : closed (take at order) (row p u) ≡ closed order (row p u) = ap (λ t. closed t (row p u)) (take_all at order h) in
        let r = some_open order (row p u) (omega (arith, d.left u lt)) in
        (r.0, r.1, known u r.0 r.1, positive_from (get_or pending r.0 0) (sym (d.once r.0 (known u r.0 r.1)) ∙ r.2));
  }
