-- Direct dependencies: what sorting and dropping repeats leave of a row, and that it is deps(x, 1) - x.
use Rattle.std.proofs.Common.{◌≡◌, ◌≢◌, ℕ, ◌≤◌, Bool, true, List, [], ◌∷◌, length, refl, sym, subst, ◌∙◌, arith}
use Rattle.std.specs.Prelude.{◌==◌, not, nat_eq}
use Rattle.std.specs.List.{Contains, dedup, filter}
use Rattle.std.specs.List.Retain.{IsFiltered, DiffersFromLast}
use Rattle.std.specs.List.Sorted.{IsPermutation, IsSorted}
use Rattle.std.specs.Ordering.{nat_cmp}
use Rattle.std.proofs.lemmas.Bool.{eqb-false, ne_eqb, not-true, not_from_false}
use Rattle.std.proofs.lemmas.List.Elements.{All-contains, filter_passes}
use Rattle.std.proofs.lemmas.List.Filters.{dedup_is}
use Rattle.std.proofs.lemmas.List.Kept.{Contains-dedup_nat, Contains-from_dedup}
use Rattle.std.proofs.lemmas.List.Sorted.{Contains-permutation, IsPermutation-sym}
use Rattle.std.proofs.lemmas.Map.Keys.{IsStrictlyIncreasing-dedup}
use Rattle.bq_query_graph.specs.Paths.{row, Pair, IsPath}
use Rattle.bq_facts.specs.Deps.{AreDirect}
use Rattle.bq_facts.specs.Laws.{DirectAreDeps}
use Rattle.bq_facts.proofs.Filtered.{into_filter, from_filter}

-- ---- what the code makes of a row

abbrev is_other : ℕ → ℕ → Bool
is_other x y = not (y == x)

other_differs : (x y : ℕ) → is_other x y ≡ true → y ≢ x
other_differs x y h = eqb-false y x (not-true (y == x) h)

differs_other : (x y : ℕ) → y ≢ x → is_other x y ≡ true
differs_other x y h = not_from_false (y == x) (ne_eqb y x h)

direct_of : (numbers sorted : List ℕ) (x : ℕ) → IsPermutation (filter (is_other x) numbers) sorted → IsSorted nat_cmp sorted
    → AreDirect numbers x (dedup nat_eq sorted)
direct_of numbers sorted x moved order =
    let kept = filter (is_other x) numbers in
    record {
      ascending = IsStrictlyIncreasing-dedup sorted order;
      each = λ y. (
        λ has.
            let there : Contains kept y = Contains-permutation sorted kept y (IsPermutation-sym kept sorted moved) (Contains-from_dedup nat_eq sorted y has) in
            (from_filter (is_other x) numbers y there, other_differs x y (All-contains (λ z. is_other x z ≡ true) kept y (filter_passes (is_other x) numbers) there)),
        λ has. Contains-dedup_nat sorted y (Contains-permutation kept sorted y moved (into_filter (is_other x) numbers y has.0 (differs_other x y has.1))),
      );
    }

pub direct_deps_of : (numbers kept sorted ds : List ℕ) (x : ℕ) → kept ≡ filter (λ y. not (y == x)) numbers → IsPermutation kept sorted → IsSorted nat_cmp sorted
    → IsFiltered (DiffersFromLast nat_eq) [] sorted ds → AreDirect numbers x ds
direct_deps_of numbers kept sorted ds x is moved order left =
    subst (λ l. AreDirect numbers x l) (sym (dedup_is nat_eq sorted ds left))
    (direct_of numbers sorted x (subst (λ l. IsPermutation l sorted) is moved) order)

-- ---- the law

-- the end of a path of at most one edge is its start, or what the edge leads to
first_edge : (g : List (List ℕ)) (x a : ℕ) (through : List ℕ) (y : ℕ) → a ≡ x → IsPath (Pair g) a through y → length through ≤ 1 → y ≢ x
    → Contains (row g x) y
first_edge g x a [] y starts path few other = absurd (other (sym path ∙ starts))
first_edge g x a (u ∷ []) y starts path few other =
    subst (λ b. Contains (row g b) y) starts (subst (λ b. Contains (row g a) b) path.1 path.0)
first_edge g x a (u ∷ v ∷ us) y starts path few other = absurd (omega arith)

pub direct_deps_are_deps : (g : List (List ℕ)) (x : ℕ) (ds : List ℕ) → DirectAreDeps g x ds
direct_deps_are_deps g x ds direct y = (
  λ has.
      let both = (direct.each y).0 has in
      ((record { from = x; starts = refl; through = y ∷ []; path = (both.0, refl) }, omega arith), both.1),
  λ ((e, few), other). (direct.each y).1 (first_edge g x e.from e.through y e.starts e.path few other, other),
)
