-- Which modules of a load graph are cyclic: a path of one edge more than there are modules starts at them, so that loading them would never end.
use Rattle.std.specs.Prelude.{◌≡◌, ℕ, zero, suc, ◌<◌, ◌↔◌, Bool, true, false, length}
use Rattle.std.specs.List.{list_any}
use Rattle.bq_board_plan.specs.Counts.{Has}
use Rattle.bq_board_plan.specs.Graph.{Loads, row, Known}

-- a path of n edges starts at m
abbrev pub HasPath : Loads → ℕ → ℕ → Type 0
HasPath p zero m = Unit {0}
HasPath p (suc n) m = (l : ℕ) × Has (row p m) l × HasPath p n l

-- the same as a test
unfoldable pub starts_path : Loads → ℕ → ℕ → Bool
starts_path p zero m = true
starts_path p (suc n) m = list_any (starts_path p n) (row p m)

-- a path of loads leads from `m` through as many modules as there are, and one more: so it comes to one of them twice
abbrev pub is_cyclic : Loads → ℕ → Bool
is_cyclic p m = starts_path p (suc (length p)) m

-- the test is the relation
abbrev pub TestsPaths : Loads → Type 0
TestsPaths p = (n m : ℕ) → (starts_path p n m ≡ true → HasPath p n m) × (HasPath p n m → starts_path p n m ≡ true)

-- none of the modules is cyclic
abbrev pub IsAcyclic : Loads → Type 0
IsAcyclic p = (m : ℕ) → m < length p → is_cyclic p m ≡ false

-- a path of n edges leads from m to l
abbrev pub PathTo : Loads → ℕ → ℕ → ℕ → Type 0
PathTo p zero m l = m ≡ l
PathTo p (suc n) m l = (k : ℕ) × Has (row p m) k × PathTo p n k l

-- loads lead from m to l
abbrev pub Reaches : Loads → ℕ → ℕ → Type 0
Reaches p m l = (n : ℕ) × PathTo p n m l

-- loads lead from m back to m
abbrev pub IsOnCycle : Loads → ℕ → Type 0
IsOnCycle p m = (n : ℕ) × PathTo p (suc n) m m

-- a module is cyclic exactly where it reaches one on a cycle
abbrev pub ReachesACycle : Loads → Type 0
ReachesACycle p = Known p → (m : ℕ) → (is_cyclic p m ≡ true) ↔ ((l : ℕ) × Reaches p m l × IsOnCycle p l)

-- and exactly where it loads a cyclic one
abbrev pub LoadsACyclic : Loads → Type 0
LoadsACyclic p = Known p → (m : ℕ) → (is_cyclic p m ≡ true) ↔ ((l : ℕ) × Has (row p m) l × (is_cyclic p l ≡ true))
