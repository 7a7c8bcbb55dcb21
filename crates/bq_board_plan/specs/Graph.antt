-- A load graph lists for each module, by number, the modules that it loads. Each entry of a row is an edge.
use Rattle.std.specs.Prelude.{ℕ, ◌<◌, ◌≤◌, List, [], ◌∷◌, ◌++◌, length, map, Vec}
use Rattle.std.specs.declared.alloc.Global.{Global}
use lib.ListN.{get_or}
use Rattle.bq_base.specs.declared.limits.Limits.{Limits}
use Rattle.bq_base.specs.Limits.{number_bound}
use Rattle.bq_board_plan.specs.Counts.{Has}

-- the load graph: for each module, by its number, the numbers of those that it loads, in source order
abbrev pub Loads : Type 0
Loads = List (List ℕ)

-- the rows that vectors hold
abbrev pub lists : List (Vec ℕ Global) → Loads
lists vs = map (λ r. r.items) vs

-- the modules that m loads
abbrev pub row : Loads → ℕ → List ℕ
row p m = get_or p m []

-- the loaded modules, row after row: an edge is a place in this list
abbrev pub sources : Loads → List ℕ
sources [] = []
sources (r ∷ rs) = r ++ sources rs

-- the number of edges
abbrev pub edges : Loads → ℕ
edges p = length (sources p)

-- each loaded module is one of the graph
abbrev pub Known : Loads → Type 0
Known p = (m l : ℕ) → Has (row p m) l → l < length p

-- the graph keeps these limits
abbrev pub Fits : Limits → Loads → Type 0
Fits limits p = (length p ≤ limits.modules) × (edges p ≤ limits.edges)

-- modules and edges can be numbered, and each load names one of its modules
abbrev pub IsGraph : Loads → Type 0
IsGraph p = ((length p < number_bound) × (edges p < number_bound)) × Known p
