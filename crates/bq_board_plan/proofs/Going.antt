-- A module is cyclic exactly where loads lead from it to a module on a cycle.
use Rattle.std.proofs.Common.{◌≡◌, ℕ, zero, suc, ◌+◌, ◌<◌, ◌≤◌, true, List, [], ◌∷◌, length, sym, refl, ap, subst, inl, inr, arith}
use Rattle.std.proofs.lemmas.List.{get_or_past}
use mathlib.Core.Logic.{dite}
use native.Mathlib.Decide.{ℕ_discrete, dec_le, dec_lt}
use Rattle.bq_board_plan.specs.Counts.{times, Has, below}
use Rattle.bq_board_plan.specs.Graph.{Loads, row, Known}
use Rattle.bq_board_plan.specs.Cycles.{is_cyclic, HasPath, PathTo, Reaches, IsOnCycle, ReachesACycle, LoadsACyclic}
use Rattle.bq_board_plan.proofs.Sums.{at_same, at_other, length_times}
use Rattle.bq_board_plan.proofs.Paths.{cons_has, path_is, is_path}

-- n numbers that sum up to more than n: one is above 1
above_one : (f : ℕ → ℕ) (n : ℕ) → n < below f n → (k : ℕ) × (2 ≤ f k)
above_one f zero h = absurd (omega arith)
above_one f (suc n) h = dite (dec_le 2 (f n)) (λ yes. (n, yes)) (λ no. above_one f n (omega arith))

-- of more than n numbers below n, one occurs twice
occurs_twice : (n : ℕ) (ys : List ℕ) → ((x : ℕ) → Has ys x → x < n) → n < length ys → (k : ℕ) × (2 ≤ times k ys)
occurs_twice n ys inside long = above_one (λ k. times k ys) n (omega (arith, length_times n ys inside))

module _ (p : Loads) where
  -- the modules on a path
  abbrev nodes : (n m : ℕ) → HasPath p n m → List ℕ
  nodes zero m h = m ∷ []
  nodes (suc n) m h = m ∷ nodes n h.0 h.2

  nodes_count : (n m : ℕ) (h : HasPath p n m) → length (nodes n m h) ≡ suc n
  nodes_count zero m h = refl
  nodes_count (suc n) m h = omega (arith, nodes_count n h.0 h.2)

  loads_something : (m l : ℕ) → Has (row p m) l → m < length p
  loads_something m l h = dite (dec_lt m (length p)) (λ lt. lt) (λ past. absurd (omega (arith, h, ap (times l) (get_or_past p m [] (omega arith)))))

  nodes_inside : Known p → (n m : ℕ) (h : HasPath p n m) → m < length p → (x : ℕ) → Has (nodes n m h) x → x < length p
  nodes_inside known zero m h lt x had = elim (cons_has m [] x had) [ inl e ↦ subst (λ (z : ℕ). z < length p) e lt | inr k ↦ absurd (omega arith) ]
  nodes_inside known (suc n) m h lt x had = elim (cons_has m (nodes n h.0 h.2) x had) [ inl e ↦ subst (λ (z : ℕ). z < length p) e lt | inr k ↦ nodes_inside known n h.0 h.2 (known m h.0 h.1) x k ]

  reaches_node : (n m : ℕ) (h : HasPath p n m) (k : ℕ) → Has (nodes n m h) k → Reaches p m k
  reaches_node zero m h k had = elim (cons_has m [] k had) [ inl e ↦ (0, e) | inr t ↦ absurd (omega arith) ]
  reaches_node (suc n) m h k had = elim (cons_has m (nodes n h.0 h.2) k had) [
    | inl e ↦ (0, e)
    | inr t ↦ let r = reaches_node n h.0 h.2 k t in (suc r.0, (h.0, h.1, r.1))
  ]

  -- a module that a path visits twice is on a cycle
  visited_twice : (n m : ℕ) (h : HasPath p n m) (k : ℕ) → 2 ≤ times k (nodes n m h) → Reaches p m k × IsOnCycle p k
  visited_twice zero m h k two = dite (ℕ_discrete m k) (λ e. absurd (omega (arith, two, at_same k m e))) (λ ne. absurd (omega (arith, two, at_other k m ne)))
  visited_twice (suc n) m h k two = dite (ℕ_discrete m k)
      (λ e. let r = reaches_node n h.0 h.2 k (omega (arith, two, at_same k m e)) in
      ((0, e), (r.0, subst (λ (z : ℕ). PathTo p (suc r.0) z k) e (h.0, h.1, r.1))))
      (λ ne. let r = visited_twice n h.0 h.2 k (omega (arith, two, at_other k m ne)) in ((suc r.0.0, (h.0, h.1, r.0.1)), r.1))

  to_a_cycle : Known p → (m : ℕ) → is_cyclic p m ≡ true → (l : ℕ) × Reaches p m l × IsOnCycle p l
  to_a_cycle known m e =
      let h : HasPath p (suc (length p)) m = path_is p (suc (length p)) m e in
      let t = occurs_twice (length p) (nodes (suc (length p)) m h) (nodes_inside known (suc (length p)) m h (loads_something m h.0 h.1)) (omega (arith, nodes_count (suc (length p)) m h)) in
      let r = visited_twice (suc (length p)) m h t.0 t.1 in (t.0, r.0, r.1)

  joined : (n i k m l : ℕ) → k ≡ n + i → PathTo p n m l → HasPath p i l → HasPath p k m
  joined zero i k m l e q h = subst (λ (z : ℕ). HasPath p z m) (let same : i ≡ k = omega arith in same) (subst (λ (z : ℕ). HasPath p i z) (sym q) h)
  joined (suc n) i zero m l e q h = absurd (omega arith)
  joined (suc n) i (suc k) m l e q h = (q.0, q.1, joined n i k q.0 l (omega arith) q.2 h)

  shorter : (i n m : ℕ) → i ≤ n → HasPath p n m → HasPath p i m
  shorter zero n m le h = tt
  shorter (suc i) zero m le h = absurd (omega arith)
  shorter (suc i) (suc n) m le h = (h.0, h.1, shorter i n h.0 (omega arith) h.2)

  -- around a cycle as often as wanted
  round : (j k l : ℕ) → PathTo p (suc k) l l → (n : ℕ) × (j ≤ n) × HasPath p n l
  round zero k l c = (0, omega arith, tt)
  round (suc j) k l c = let r = round j k l c in (suc k + r.0, omega (arith, r.1), joined (suc k) r.0 (suc k + r.0) l l refl c r.2)

  from_a_cycle : (m l : ℕ) → Reaches p m l → IsOnCycle p l → is_cyclic p m ≡ true
  from_a_cycle m l q c = let r = round (suc (length p)) c.0 l c.1 in
      is_path p (suc (length p)) m (shorter (suc (length p)) (q.0 + r.0) m (omega (arith, r.1)) (joined q.0 r.0 (q.0 + r.0) m l refl q.1 r.2))

  pub reaches_a_cycle : ReachesACycle p
  reaches_a_cycle known m = (to_a_cycle known m, λ t. from_a_cycle m t.0 t.1 t.2)

  first_step : (n m l : ℕ) → PathTo p n m l → IsOnCycle p l → (x : ℕ) × Has (row p m) x × (is_cyclic p x ≡ true)
  first_step zero m l q c =
      let back : PathTo p (suc c.0) m m = subst (λ (z : ℕ). PathTo p (suc c.0) z z) (sym q) c.1 in
      (back.0, back.1, from_a_cycle back.0 m (c.0, back.2) (c.0, back))
  first_step (suc n) m l q c = (q.0, q.1, from_a_cycle q.0 l (n, q.2) c)

  pub loads_a_cyclic : LoadsACyclic p
  loads_a_cyclic known m = (
    (λ e. let t = to_a_cycle known m e in first_step t.1.0 m t.0 t.1.1 t.2),
    (λ t. let r = to_a_cycle known t.0 t.2 in from_a_cycle m r.0 (suc r.1.0, (t.0, t.1, r.1.1)) r.2),
  )
