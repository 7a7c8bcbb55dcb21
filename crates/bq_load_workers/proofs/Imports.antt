-- The values of a module's loads come along its edges, one after another.
use Rattle.std.proofs.Common.{◌≡◌, ℕ, ◌+◌, ◌-◌, ◌<◌, ◌≤◌, List, [], ◌∷◌, ◌++◌, length, drop, get_or, Some, None, Ok, Err, sym, ap, ◌∙◌, arith}
use Rattle.bq_board.specs.Graph.{Loads, row}
use Rattle.bq_board.specs.Plan.{source, start, Into, EdgesAreLoads}
use Rattle.bq_board.proofs.Lemmas.{start_next}
use Rattle.bq_load_order.specs.Outcome.{load_values}
use Rattle.bq_load_order.specs.declared.outcome.Outcome.{Outcome}
use Rattle.bq_load_order.specs.SharedOutcomes.{value_in}
use Rattle.bq_load_order.proofs.Values.{before, values_begin, values_next, values_stop, values_end}

pub into_here : (q : Loads) (m e : ℕ) {a b : ℕ} → a ≡ start q m → b ≡ start q (m + 1) → a ≤ e → e < b → Into q m e
into_here q m e from to low high = (omega (arith, from), omega (arith, to))

module _ {V F : Type 0} (out : ℕ → Outcome V F) (q : Loads) (m : ℕ) where
  -- these values came along the edges before e
  abbrev pub Came : ℕ → List V → Type 0
  Came e vs = load_values out (row q m) ≡ before vs (load_values out (drop (e - start q m) (row q m)))

  pub came_none : (e : ℕ) (vs : List V) → e ≡ start q m → vs ≡ [] → Came e vs
  came_none e vs from none = let n : e - start q m ≡ 0 = omega (arith, from) in
      values_begin out (row q m) ∙ (λ i. before (sym none i) (load_values out (drop (sym n i) (row q m))))

  module _ (loads : EdgesAreLoads q) (known : m < length q) (e : ℕ) (into : Into q m e) (vs : List V) (so : Came e vs) where
    place : (k : ℕ) × (k < length (row q m)) × (e - start q m ≡ k) × (source q e ≡ get_or (row q m) k 0)
    place = let k = (loads m known).1 e into in (k.0, k.1, omega (arith, k.2), ap (source q) k.2 ∙ ((loads m known).0 k.0 k.1).1)

    at_place : load_values out (row q m) ≡ before vs (load_values out (drop place.0 (row q m)))
    at_place = so ∙ ap (λ j. before vs (load_values out (drop j (row q m)))) place.2

    pub came_next : (v : V) → value_in (out (source q e)) ≡ Some v → Came (e + 1) (vs ++ v ∷ [])
    came_next v is =
        let more : e + 1 - start q m ≡ place.0 + 1 = omega (arith, place.2, into.0) in
        values_next out (row q m) place.0 vs v place.1 (ap (λ l. value_in (out l)) (sym place.3) ∙ is) at_place ∙ ap (λ j. before (vs ++ v ∷ []) (load_values out (drop j (row q m)))) (sym more)

    pub came_stop : value_in (out (source q e)) ≡ None → load_values out (row q m) ≡ Err (source q e)
    came_stop is = values_stop out (row q m) place.0 vs place.1 (ap (λ l. value_in (out l)) (sym place.3) ∙ is) at_place ∙ ap Err (sym place.3)

  pub came_all : m < length q → (e : ℕ) → start q (m + 1) ≤ e → (vs : List V) → Came e vs → load_values out (row q m) ≡ Ok vs
  came_all known e past vs so = values_end out (row q m) (e - start q m) vs (omega (arith, start_next q m known)) so
