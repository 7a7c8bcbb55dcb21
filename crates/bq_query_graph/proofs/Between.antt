-- What depends on B within deps(A) is what lies on the paths from A to B.
use Rattle.std.proofs.Common.{ℕ, List, [], ◌∷◌, ◌++◌}
use Rattle.std.specs.List.{AllByRecursion}
use Rattle.bq_query_graph.specs.Paths.{Pair, IsPath, Deps, Rdeps, OnPaths}
use Rattle.bq_query_graph.proofs.Walks.{path_more}

-- deps(A) is closed under edges
pub deps_next : (g : List (List ℕ)) → (A : ℕ → Type 0) → (x y : ℕ) → Deps g A x → Pair g x y → Deps g A y
deps_next g A x y r e = record { from = r.from; starts = r.starts; through = r.through ++ y ∷ []; path = path_more (Pair g) r.from r.through x y r.path e }

-- so a path out of deps(A) stays there
pub stays : (g : List (List ℕ)) → (A : ℕ → Type 0) → (x : ℕ) (us : List ℕ) (z : ℕ) → Deps g A x → IsPath (Pair g) x us z → AllByRecursion (Deps g A) (x ∷ us)
stays g A x [] z d p = (d, tt)
stays g A x (u ∷ us) z d p = (d, stays g A u us z (deps_next g A x u d p.0) p.1)

pub between : (g : List (List ℕ)) → (A B : ℕ → Type 0) → (y : ℕ) → Rdeps g A B y → OnPaths g A B y
between g A B y r = record { reached = r.inside.0; to = r.to; ends = r.ends; through = r.through; path = r.path }

pub dependents : (g : List (List ℕ)) → (A B : ℕ → Type 0) → (y : ℕ) → OnPaths g A B y → Rdeps g A B y
dependents g A B y r = record { to = r.to; ends = r.ends; through = r.through; path = r.path; inside = stays g A y r.through r.to r.reached r.path }
