-- What a target depends on directly is what its row has, in order.
use Rattle.std.proofs.Common.{◌≡◌, ◌≢◌, ◌∙◌, ◌+◌, ◌<◌, ℕ, true, List, [], ◌∷◌, ◌++◌, length, get_or, sym, ap, arith, map-id, eq-eqb, ne_eqb}
use Rattle.std.specs.Prelude.{not, nat_eq}
use Rattle.std.specs.List.{All, Contains, filter, list_any, range_with_len}
use Rattle.std.specs.List.Sorted.{IsStrictlyIncreasing}
use Rattle.std.proofs.lemmas.Bool.{and_from, and_parts, eqb-true, eqb-false, not-true, not_from_false}
use Rattle.std.proofs.lemmas.List.Elements.{All-contains, All-from_get_or, Contains-get_or, filter_passes}
use Rattle.std.proofs.lemmas.List.Folds.{list_any_at}
use Rattle.std.proofs.lemmas.List.FromFn.{length-range_with_len, get_or-range_with_len, map-range_with_len_more}
use Rattle.std.proofs.lemmas.List.Kept.{IsStrictlyIncreasing-filter}
use Rattle.std.proofs.lemmas.Map.Views.{Contains-from_any}
use Rattle.bq_query_graph.specs.Paths.{row}
use Rattle.bq_query_target_graph.specs.Graph.{GraphParts}
use Rattle.bq_facts.specs.Deps.{AreDirect}
use Rattle.bq_facts.proofs.Direct.{direct_deps_are_deps}
use Rattle.bq_facts.proofs.Filtered.{into_filter}
use Rattle.bq_run_report.proofs.OneList.{one_list}
use Rattle.bq_run_facts.specs.Laws.{DirectIsDeps}
use Rattle.bq_run_facts.specs.Lines.{depends, direct}

-- ---- the numbers of all targets

numbers_rise : (n : ℕ) → IsStrictlyIncreasing (range_with_len 0 n)
numbers_rise n k l =
    let long : k + 1 < n = omega (arith, l, length-range_with_len 0 n) in
    omega (arith, get_or-range_with_len 0 n k 0 (omega (arith, long)), get_or-range_with_len 0 n (k + 1) 0 long)

number_there : (n y : ℕ) → y < n → Contains (range_with_len 0 n) y
number_there n y l = (y, omega (arith, l, length-range_with_len 0 n), omega (arith, get_or-range_with_len 0 n y y l))

pub numbers_below : (n : ℕ) → All (λ y. y < n) (range_with_len 0 n)
numbers_below n = All-from_get_or (λ y. y < n) (range_with_len 0 n) 0 (λ i l.
    let inside : i < n = omega (arith, l, length-range_with_len 0 n) in
    omega (arith, get_or-range_with_len 0 n i 0 inside, inside))

pub numbers_more : (n : ℕ) → range_with_len 0 (n + 1) ≡ range_with_len 0 n ++ n ∷ []
numbers_more n =
    sym (map-id (range_with_len 0 (n + 1))) ∙ map-range_with_len_more (λ (y : ℕ). y) 0 n n (omega arith) ∙ ap (λ l. l ++ n ∷ []) (map-id (range_with_len 0 n))

-- ---- direct dependencies

module _ (w : GraphParts) (x : ℕ) where
  is_dependency : (y : ℕ) → Contains (row w.edges x) y → y ≢ x → depends w x y ≡ true
  is_dependency y has other =
      and_from (list_any (nat_eq y) (row w.edges x)) (not (nat_eq y x))
      (list_any_at (nat_eq y) (row w.edges x) has.0 y has.1 (eq-eqb y (get_or (row w.edges x) has.0 y) (sym has.2)))
      (not_from_false (nat_eq y x) (ne_eqb y x other))

  from_dependency : (y : ℕ) → depends w x y ≡ true → Contains (row w.edges x) y × (y ≢ x)
  from_dependency y h =
      let both = and_parts (list_any (nat_eq y) (row w.edges x)) (not (nat_eq y x)) h in
      (Contains-from_any (λ a b e. eqb-true a b e) y (row w.edges x) both.0, eqb-false y x (not-true (nat_eq y x) both.1))

  pub are_direct : All (λ y. y < length w.targets) (row w.edges x) → AreDirect (row w.edges x) x (direct w x)
  unfolding direct
  are_direct below =
      let n = length w.targets in
      let numbers = range_with_len 0 n in
      record {
        ascending = IsStrictlyIncreasing-filter (depends w x) numbers (numbers_rise n);
        each = λ y. (
          λ has. from_dependency y (All-contains (λ z. depends w x z ≡ true) (filter (depends w x) numbers) y (filter_passes (depends w x) numbers) has),
          λ both. into_filter (depends w x) numbers y (number_there n y (All-contains (λ z. z < n) (row w.edges x) y below both.0)) (is_dependency y both.0 both.1),
        );
      }

  -- the numbers of a row but for the target's own, in order, are these
  pub direct_is : (ds : List ℕ) → AreDirect (row w.edges x) x ds → All (λ y. y < length w.targets) (row w.edges x) → ds ≡ direct w x
  direct_is ds are below =
      let these = are_direct below in
      one_list ds (direct w x) are.ascending these.ascending (λ y. (λ has. (these.each y).1 ((are.each y).0 has), λ has. (are.each y).1 ((these.each y).0 has)))

-- they are targets
pub direct_below : (numbers ds : List ℕ) (x n : ℕ) → AreDirect numbers x ds → All (λ y. y < n) numbers → All (λ y. y < n) ds
direct_below numbers ds x n are below =
    All-from_get_or (λ y. y < n) ds 0 (λ i l. All-contains (λ y. y < n) numbers (get_or ds i 0) below ((are.each (get_or ds i 0)).0 (Contains-get_or ds i 0 l)).0)

-- ---- the law

pub direct_is_deps : DirectIsDeps
direct_is_deps w x y below long =
    let inside : All (λ z. z < length w.targets) (row w.edges x) =
    All-from_get_or (λ z. z < length w.targets) (row w.edges x) 0 (λ i l. omega (arith, long, below x (get_or (row w.edges x) i 0) (Contains-get_or (row w.edges x) i 0 l))) in
    direct_deps_are_deps w.edges x (direct w x) (are_direct w x inside) y
