-- The edges of a plan: numbered by the module that loads, then by place. An edge runs from its source, the loaded module, into the module that loads it.
use Rattle.std.specs.Prelude.{◌≡◌, ℕ, ◌+◌, ◌<◌, ◌≤◌, List, ◌++◌, length, take, slice_index, sum_by}
use Rattle.bq_board_plan.specs.Graph.{Loads, row, sources, edges, IsGraph}
use Rattle.bq_board_plan.specs.Counts.{times, Has}
use Rattle.bq_board_plan.specs.Cycles.{IsAcyclic}

-- the module that edge e comes from: the one that is loaded
abbrev pub source : Loads → ℕ → ℕ
source p e = slice_index (sources p) e

-- the number of the first edge into m
abbrev pub start : Loads → ℕ → ℕ
start p m = sum_by length (take m p)

-- the edge e runs into m
abbrev pub Into : Loads → ℕ → ℕ → Type 0
Into p m e = (start p m ≤ e) × (e < start p (m + 1))

-- a load graph without cyclic modules
abbrev pub IsPlan : Loads → Type 0
IsPlan p = IsGraph p × IsAcyclic p

-- where the edges into each module begin, and at last the number of edges
pub record HasStarts (p : Loads) (starts : List ℕ) : Type 0 where
  pub wide : length starts ≡ length p + 1
  pub at : (m : ℕ) → m ≤ length p → slice_index starts m ≡ start p m

-- for each edge the module that it runs into
pub record HasTargets (p : Loads) (targets : List ℕ) : Type 0 where
  pub wide : length targets ≡ edges p
  pub at : (e : ℕ) → e < edges p → (slice_index targets e < length p) × Into p (slice_index targets e) e

-- for each of n modules the edges out of it, of the edges with these sources
pub record OutsOf (srcs : List ℕ) (n : ℕ) (outs : Loads) : Type 0 where
  pub wide : length outs ≡ n
  pub leaves : (l e : ℕ) → Has (row outs l) e → (e < length srcs) × (slice_index srcs e ≡ l)
  pub all : (e : ℕ) → e < length srcs → Has (row outs (slice_index srcs e)) e
  pub once : (l e : ℕ) → times e (row outs l) ≤ 1

-- the edges of one more row join those out of what it loads
abbrev pub AddsOuts : ℕ → List ℕ → Loads → Loads → Type 0
AddsOuts first loaded old new = (srcs : List ℕ) → length srcs ≡ first → OutsOf srcs (length old) old → OutsOf (srcs ++ loaded) (length old) new

-- the edges out of m, each once
pub record IsOut (p : Loads) (m : ℕ) (es : List ℕ) : Type 0 where
  pub leaves : (e : ℕ) → Has es e → (e < edges p) × (source p e ≡ m)
  pub all : (e : ℕ) → e < edges p → source p e ≡ m → Has es e
  pub once : (e : ℕ) → times e es ≤ 1

-- the starts of the first k modules, and where the next edge begins
pub record StartsBelow (p : Loads) (k end : ℕ) (starts : List ℕ) : Type 0 where
  pub wide : length starts ≡ k + 1
  pub at : (m : ℕ) → m ≤ k → slice_index starts m ≡ start p m
  pub ends : end ≡ start p k

-- the targets of the edges into the first k modules
pub record TargetsBelow (p : Loads) (k : ℕ) (targets : List ℕ) : Type 0 where
  pub wide : length targets ≡ start p k
  pub at : (e : ℕ) → e < start p k → (slice_index targets e < k) × Into p (slice_index targets e) e

-- the edges into m are as many as m's loads, and the next module's come right after them
abbrev pub StartsAreSums : Loads → Type 0
StartsAreSums p = (start p 0 ≡ 0) × ((m : ℕ) → m < length p → start p (m + 1) ≡ start p m + length (row p m)) × (start p (length p) ≡ edges p)

-- the edge at place k of m's row
abbrev pub edge_at : Loads → ℕ → ℕ → ℕ
edge_at p m k = start p m + k

-- the edges into m are its loads, place by place
abbrev pub EdgesAreLoads : Loads → Type 0
EdgesAreLoads p = (m : ℕ) → m < length p →
    ((k : ℕ) → k < length (row p m) → Into p m (edge_at p m k) × (source p (edge_at p m k) ≡ slice_index (row p m) k))
    × ((e : ℕ) → Into p m e → (k : ℕ) × (k < length (row p m)) × (e ≡ edge_at p m k))
