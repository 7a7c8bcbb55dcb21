-- What functions make of sets of fewer targets has fewer targets, over the same targets and more pairs. So a set has one meaning in whatever
-- words its argument is said, and it hangs on the pairs of a graph alone, and not on how its rows are written.
use Rattle.std.proofs.Common.{ℕ, List, [], ◌∷◌, Option, None, Some}
use Rattle.std.specs.List.{AllByRecursion}
use Rattle.bq_label.specs.Label.{PackageParts}
use Rattle.bq_package_target.specs.declared.target.Target.{Target}
use Rattle.bq_query_graph.specs.Paths.{Pair, IsPath, Deps, DepsWithin, Rdeps, RdepsWithin, OnPaths}
use Rattle.bq_query_target_graph.specs.Graph.{GraphParts}
use Rattle.bq_query_function.specs.Sets.{SetOfOne, SetOfTwo, reached, chosen, related, reaching, between, none, none_of_two, OfOne, OfTwo}

abbrev pub Within : (ℕ → Type 0) → (ℕ → Type 0) → Type 0
Within P Q = (y : ℕ) → P y → Q y

-- every pair of the one graph is a pair of the other
abbrev pub PairsIn : List (List ℕ) → List (List ℕ) → Type 0
PairsIn g h = (a b : ℕ) → Pair g a b → Pair h a b

-- a graph of these targets and packages
abbrev pub graph : List Target → List PackageParts → List (List ℕ) → GraphParts
graph ts ps edges = record { targets = ts; packages = ps; edges = edges }

module _ (g h : List (List ℕ)) (to : PairsIn g h) where
  path_in : (x : ℕ) (us : List ℕ) (z : ℕ) → IsPath (Pair g) x us z → IsPath (Pair h) x us z
  path_in x [] z p = p
  path_in x (u ∷ us) z p = (to x u p.0, path_in u us z p.1)

  deps_in : (P Q : ℕ → Type 0) → Within P Q → Within (Deps g P) (Deps h Q)
  deps_in P Q f y e = record { from = e.from; starts = f e.from e.starts; through = e.through; path = path_in e.from e.through y e.path }

  deps_within_in : (n : ℕ) (P Q : ℕ → Type 0) → Within P Q → Within (DepsWithin g P n) (DepsWithin h Q n)
  unfolding deps_in
  deps_within_in n P Q f y (e, few) = (deps_in P Q f y e, few)

  all_in : (U V : ℕ → Type 0) → Within U V → (xs : List ℕ) → AllByRecursion (Deps g U) xs → AllByRecursion (Deps h V) xs
  all_in U V f [] a = tt
  all_in U V f (x ∷ xs) a = (deps_in U V f x a.0, all_in U V f xs a.1)

  rdeps_in : (U V X Y : ℕ → Type 0) → Within U V → Within X Y → Within (Rdeps g U X) (Rdeps h V Y)
  rdeps_in U V X Y f k y e =
      record { to = e.to; ends = k e.to e.ends; through = e.through; path = path_in y e.through e.to e.path; inside = all_in U V f (y ∷ e.through) e.inside }

  rdeps_within_in : (n : ℕ) (U V X Y : ℕ → Type 0) → Within U V → Within X Y → Within (RdepsWithin g U X n) (RdepsWithin h V Y n)
  unfolding rdeps_in
  rdeps_within_in n U V X Y f k y (e, few) = (rdeps_in U V X Y f k y e, few)

  paths_in : (A C B D : ℕ → Type 0) → Within A C → Within B D → Within (OnPaths g A B) (OnPaths h C D)
  paths_in A C B D f k y e = record { reached = deps_in A C f y e.reached; to = e.to; ends = k e.to e.ends; through = e.through; path = path_in y e.through e.to e.path }

module _ (ts : List Target) (ps : List PackageParts) (g h : List (List ℕ)) (to : PairsIn g h) where
  pub one_in : (s : SetOfOne) (P Q : ℕ → Type 0) → Within P Q → Within (OfOne (graph ts ps g) s P) (OfOne (graph ts ps h) s Q)
  one_in (reached None) P Q k y e = deps_in g h to P Q k y e
  one_in (reached (Some n)) P Q k y e = deps_within_in g h to n P Q k y e
  one_in (chosen test) P Q k y e = (k y e.0, e.1)
  one_in (related names) P Q k y e = (e.0, k e.0 e.1, e.2)
  one_in none P Q k y e = e

  pub two_in : (s : SetOfTwo) (A C B D : ℕ → Type 0) → Within A C → Within B D → Within (OfTwo (graph ts ps g) s A B) (OfTwo (graph ts ps h) s C D)
  two_in (reaching None) A C B D j k y e = rdeps_in g h to A C B D j k y e
  two_in (reaching (Some n)) A C B D j k y e = rdeps_within_in g h to n A C B D j k y e
  two_in between A C B D j k y e = paths_in g h to A C B D j k y e
  two_in none_of_two A C B D j k y e = e
