-- Paths in a graph of numbered targets, and the sets that a query forms by them.
use Rattle.std.specs.Prelude.{◌≡◌, ℕ, ◌<◌, ◌≤◌, List, [], ◌∷◌, length, slice_index_or}
use Rattle.std.specs.List.{Contains, AllByRecursion}

-- what a target has edges to: g has a row for each target
abbrev pub row : List (List ℕ) → ℕ → List ℕ
row g a = slice_index_or g a []

-- (a, b) is a pair of the graph
abbrev pub Pair : List (List ℕ) → ℕ → ℕ → Type 0
Pair g a b = Contains (slice_index_or g a []) b

-- x ∷ us is a path that ends in z: neighbours are pairs. It has as many edges as us has targets
abbrev pub IsPath : (ℕ → ℕ → Type 0) → ℕ → List ℕ → ℕ → Type 0
IsPath E x [] z = x ≡ z
IsPath E x (u ∷ us) z = E x u × IsPath E u us z

-- y is the end of a path that starts in S
pub record Ends (E : ℕ → ℕ → Type 0) (S : ℕ → Type 0) (y : ℕ) : Type 0 where
  pub from : ℕ
  pub starts : S from
  pub through : List ℕ
  pub path : IsPath E from through y

-- y is the end of a path of at most n edges that starts in S
abbrev pub EndsWithin : (ℕ → ℕ → Type 0) → (ℕ → Type 0) → ℕ → ℕ → Type 0
EndsWithin E S n y = (e : Ends E S y) × (length e.through ≤ n)

-- deps(x), deps(x, n)
abbrev pub Deps : List (List ℕ) → (ℕ → Type 0) → ℕ → Type 0
Deps g = Ends (Pair g)

-- targets at the ends of paths of at most so many edges
abbrev pub DepsWithin : List (List ℕ) → (ℕ → Type 0) → ℕ → ℕ → Type 0
DepsWithin g = EndsWithin (Pair g)

-- rdeps(u, x): y starts a path that ends in X, all of whose targets lie in deps(u)
pub record Rdeps (g : List (List ℕ)) (U X : ℕ → Type 0) (y : ℕ) : Type 0 where
  pub to : ℕ
  pub ends : X to
  pub through : List ℕ
  pub path : IsPath (Pair g) y through to
  pub inside : AllByRecursion (Deps g U) (y ∷ through)

-- rdeps(u, x, n)
abbrev pub RdepsWithin : List (List ℕ) → (ℕ → Type 0) → (ℕ → Type 0) → ℕ → ℕ → Type 0
RdepsWithin g U X n y = (r : Rdeps g U X y) × (length r.through ≤ n)

-- allpaths(a, b): y lies in deps(a) and starts a path that ends in b
pub record OnPaths (g : List (List ℕ)) (A B : ℕ → Type 0) (y : ℕ) : Type 0 where
  pub reached : Deps g A y
  pub to : ℕ
  pub ends : B to
  pub through : List ℕ
  pub path : IsPath (Pair g) y through to

-- each pair leads to a target
abbrev pub AreBelow : List (List ℕ) → Type 0
AreBelow g = (a b : ℕ) → Pair g a b → b < length g

-- h has the pairs of g, turned around
pub record AreTurned (g h : List (List ℕ)) : Type 0 where
  pub long : length h ≡ length g
  pub to : (a b : ℕ) → Pair g a b → Pair h b a
  pub from : (a b : ℕ) → Pair h b a → Pair g a b
