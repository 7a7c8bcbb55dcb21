-- What the definitions of the operators say, in the words of sets.
use Rattle.std.specs.Prelude.{◌↔◌, ℕ, ◌≤◌, Bool, List, length}
use Rattle.bq_query_graph.specs.Paths.{Pair, IsPath, Deps, DepsWithin, Rdeps, RdepsWithin, OnPaths, AreBelow}
use Rattle.bq_query_graph.specs.Marks.{Marked}

-- y starts a path that ends in X
pub record Reaches (g : List (List ℕ)) (X : ℕ → Type 0) (y : ℕ) : Type 0 where
  pub to : ℕ
  pub ends : X to
  pub through : List ℕ
  pub path : IsPath (Pair g) y through to

-- by at most n edges
pub record ReachesWithin (g : List (List ℕ)) (X : ℕ → Type 0) (n : ℕ) (y : ℕ) : Type 0 where
  pub to : ℕ
  pub ends : X to
  pub through : List ℕ
  pub path : IsPath (Pair g) y through to
  pub few : length through ≤ n

-- deps(x) is the least set that holds x and is closed under edges
pub record DepsIsLeast (g : List (List ℕ)) (x : List Bool) : Type 0 where
  pub holds : (y : ℕ) → Marked x y → Deps g (Marked x) y
  pub closed : (a b : ℕ) → Deps g (Marked x) a → Pair g a b → Deps g (Marked x) b
  pub least : (ms : List Bool) → ((y : ℕ) → Marked x y → Marked ms y) → ((a b : ℕ) → Marked ms a → Pair g a b → Marked ms b) → (y : ℕ) → Deps g (Marked x) y → Marked ms y

-- deps(x, n) is x for no edge, grows with n, and is deps(x) at the number of targets
pub record DepsGrows (g : List (List ℕ)) (x : List Bool) : Type 0 where
  pub none : (y : ℕ) → DepsWithin g (Marked x) 0 y ↔ Marked x y
  pub grows : (n m y : ℕ) → n ≤ m → DepsWithin g (Marked x) n y → DepsWithin g (Marked x) m y
  pub all : AreBelow g → (y : ℕ) → DepsWithin g (Marked x) (length g) y ↔ Deps g (Marked x) y

-- rdeps(u, x) is deps(u) intersected with what reaches x, and rdeps(u, x, n) with what reaches it by at most n edges
pub record RdepsIsMeet (g : List (List ℕ)) (u x : List Bool) : Type 0 where
  pub all : (y : ℕ) → Rdeps g (Marked u) (Marked x) y ↔ (Deps g (Marked u) y × Reaches g (Marked x) y)
  pub within : (n y : ℕ) → RdepsWithin g (Marked u) (Marked x) n y ↔ (Deps g (Marked u) y × ReachesWithin g (Marked x) n y)

-- allpaths(a, b) is deps(a) intersected with what reaches b
abbrev pub PathsAreMeet : List (List ℕ) → List Bool → List Bool → Type 0
PathsAreMeet g a b = (y : ℕ) → OnPaths g (Marked a) (Marked b) y ↔ (Deps g (Marked a) y × Reaches g (Marked b) y)
