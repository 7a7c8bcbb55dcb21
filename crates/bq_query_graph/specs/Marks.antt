-- Sets of targets, as marks.
use Rattle.std.specs.Prelude.{◌≡◌, ℕ, ◌+◌, ◌<◌, ◌≤◌, Bool, true, false, cond, List, ◌⊎◌, length, slice_index_or}
use Rattle.std.specs.Bool.{Decides}
use Rattle.std.specs.List.{Contains, sum_by}
use Rattle.std.specs.List.Sorted.{IsStrictlyIncreasing}
use Rattle.bq_query_graph.specs.Paths.{Pair}

-- a target is marked
abbrev pub Marked : List Bool → ℕ → Type 0
Marked ms y = slice_index_or ms y false ≡ true

-- ms marks of n targets exactly those in P
abbrev pub IsSet : ℕ → List Bool → (ℕ → Type 0) → Type 0
IsSet n ms P = (length ms ≡ n) × ((y : ℕ) → Decides (slice_index_or ms y false) (P y))

-- an edge to a target that is allowed
abbrev pub Step : List (List ℕ) → List Bool → ℕ → ℕ → Type 0
Step g allowed a b = Pair g a b × Marked allowed b

-- the seeds that are allowed
abbrev pub Both : List Bool → List Bool → ℕ → Type 0
Both xs ys y = Marked xs y × Marked ys y

-- how many are not marked
abbrev pub unmarked : List Bool → ℕ
unmarked ms = sum_by (λ b. cond b 0 1) ms

-- the marked ones are those listed
abbrev pub Held : List Bool → List ℕ → Type 0
Held ms q = (y : ℕ) → Decides (slice_index_or ms y false) (Contains q y)

-- those listed are the marked ones below i, in ascending order
pub record HeldBelow (ms : List Bool) (i : ℕ) (q : List ℕ) : Type 0 where
  pub sound : (y : ℕ) → Contains q y → Marked ms y × (y < i)
  pub full : (y : ℕ) → y < i → Marked ms y → Contains q y
  pub ascending : IsStrictlyIncreasing q

-- what is in P was marked and put at the end of the list, unless it was marked before
pub record Grew (P : ℕ → Type 0) (ms : List Bool) (q : List ℕ) (ns : List Bool) (r : List ℕ) : Type 0 where
  pub long : length ns ≡ length ms
  pub held : Held ns r
  pub kept : (y : ℕ) → Marked ms y → Marked ns y
  pub new : (y : ℕ) → Marked ns y → Marked ms y ⊎ P y
  pub all : (y : ℕ) → P y → Marked ns y
  pub front : (k : ℕ) → k < length q → slice_index_or r k 0 ≡ slice_index_or q k 0
  pub longer : length q ≤ length r
  pub count : unmarked ns + length r ≡ unmarked ms + length q

-- y is one step from a target of the list at `from` or later
pub record After (g : List (List ℕ)) (allowed : List Bool) (q : List ℕ) (from to : ℕ) (y : ℕ) : Type 0 where
  pub at : ℕ
  pub late : from < at + 1
  pub early : at < to
  pub step : Step g allowed (slice_index_or q at 0) y
