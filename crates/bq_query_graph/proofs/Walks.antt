-- Laws of paths.
use Rattle.std.proofs.Common.{◌≡◌, ℕ, ◌+◌, ◌≤◌, List, [], ◌∷◌, ◌++◌, length, sym, refl, subst, arith}
use Rattle.std.specs.List.{AllByRecursion}
use Rattle.std.proofs.lemmas.List.{length_push}
use Rattle.bq_query_graph.specs.Paths.{IsPath, EndsWithin}

pub path_more : (E : ℕ → ℕ → Type 0) → (x : ℕ) (us : List ℕ) (y z : ℕ) → IsPath E x us y → E y z → IsPath E x (us ++ z ∷ []) z
path_more E x [] y z p e = (subst (λ w. E w z) (sym p) e, refl)
path_more E x (u ∷ us) y z p e = (p.0, path_more E u us y z p.1 e)

-- the last edge of a path
pub record Last (E : ℕ → ℕ → Type 0) (x : ℕ) (n : ℕ) (y : ℕ) : Type 0 where
  pub before : ℕ
  pub through : List ℕ
  pub path : IsPath E x through before
  pub edge : E before y
  pub long : length through + 1 ≡ n

pub last_edge : (E : ℕ → ℕ → Type 0) → (x u : ℕ) (us : List ℕ) (y : ℕ) → IsPath E x (u ∷ us) y → Last E x (length us + 1) y
last_edge E x u [] y p = record { before = x; through = []; path = refl; edge = subst (λ w. E x w) p.1 p.0; long = refl }
last_edge E x u (v ∷ us) y p = let r = last_edge E u v us y p.1 in
    record { before = r.before; through = u ∷ r.through; path = (p.0, r.path); edge = r.edge; long = omega (arith, r.long) }

-- what is closed under edges holds all along
pub along : (E : ℕ → ℕ → Type 0) → (M : ℕ → Type 0) → ((a b : ℕ) → M a → E a b → M b) → (x : ℕ) (us : List ℕ) (y : ℕ) → IsPath E x us y → M x → M y
along E M f x [] y p m = subst M p m
along E M f x (u ∷ us) y p m = along E M f u us y p.1 (f x u m p.0)

pub path_map : (E F : ℕ → ℕ → Type 0) → ((a b : ℕ) → E a b → F a b) → (x : ℕ) (us : List ℕ) (y : ℕ) → IsPath E x us y → IsPath F x us y
path_map E F f x [] y p = p
path_map E F f x (u ∷ us) y p = (f x u p.0, path_map E F f u us y p.1)

-- an edge turned around, into a target in D
abbrev pub Back : (ℕ → ℕ → Type 0) → (ℕ → Type 0) → ℕ → ℕ → Type 0
Back E D a b = E b a × D b

all_more : (D : ℕ → Type 0) → (us : List ℕ) (z : ℕ) → AllByRecursion D us → D z → AllByRecursion D (us ++ z ∷ [])
all_more D [] z all d = (d, tt)
all_more D (u ∷ us) z all d = (all.0, all_more D us z all.1 d)

pub record Turned (E : ℕ → ℕ → Type 0) (D : ℕ → Type 0) (x : ℕ) (n : ℕ) (z : ℕ) : Type 0 where
  pub through : List ℕ
  pub path : IsPath (Back E D) z through x
  pub long : length through ≡ n
  pub ends : D z

pub turned : (E : ℕ → ℕ → Type 0) → (D : ℕ → Type 0) → (x : ℕ) (us : List ℕ) (z : ℕ) → IsPath E x us z → AllByRecursion D (x ∷ us) → Turned E D x (length us) z
turned E D x [] z p d = record { through = []; path = sym p; long = refl; ends = subst D p d.0 }
turned E D x (u ∷ us) z p d = let r = turned E D u us z p.1 d.1 in
    record { through = r.through ++ x ∷ []; path = path_more (Back E D) z r.through u x r.path (p.0, d.0); long = omega (arith, length_push r.through x, r.long); ends = r.ends }

pub record Forth (E : ℕ → ℕ → Type 0) (D : ℕ → Type 0) (x : ℕ) (n : ℕ) (z : ℕ) : Type 0 where
  pub through : List ℕ
  pub path : IsPath E x through z
  pub long : length through ≡ n
  pub inside : AllByRecursion D (x ∷ through)

pub forth : (E : ℕ → ℕ → Type 0) → (D : ℕ → Type 0) → (z : ℕ) (vs : List ℕ) (x : ℕ) → IsPath (Back E D) z vs x → D z → Forth E D x (length vs) z
forth E D z [] x p d = record { through = []; path = sym p; long = refl; inside = (subst D p d, tt) }
forth E D z (v ∷ vs) x p d = let r = forth E D v vs x p.1 p.0.1 in
    record { through = r.through ++ z ∷ []; path = path_more E x r.through v z r.path p.0.0; long = omega (arith, length_push r.through z, r.long); inside = all_more D (x ∷ r.through) z r.inside d }

-- sets of ends
pub ends_more : (E : ℕ → ℕ → Type 0) → (S : ℕ → Type 0) → (n x y : ℕ) → EndsWithin E S n x → E x y → EndsWithin E S (n + 1) y
ends_more E S n x y (r, few) e = (record { from = r.from; starts = r.starts; through = r.through ++ y ∷ []; path = path_more E r.from r.through x y r.path e }, omega (arith, length_push r.through y, few))

pub ends_weaker : (E : ℕ → ℕ → Type 0) → (S : ℕ → Type 0) → (n m y : ℕ) → n ≤ m → EndsWithin E S n y → EndsWithin E S m y
ends_weaker E S n m y l (r, few) = (r, omega (arith, l, few))
