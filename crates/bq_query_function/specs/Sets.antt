-- The kinds of sets that functions of queries stand for, and what each kind has: a function's row says of which kind its set is.
use Rattle.std.specs.Prelude.{ℕ, Bool, Option, Some, None}
use Rattle.bq_query_graph.specs.Paths.{Deps, DepsWithin, Rdeps, RdepsWithin, OnPaths}
use Rattle.bq_package_target.specs.declared.target.Target.{Target}
use Rattle.bq_query_target_graph.specs.Graph.{GraphParts}
use Rattle.bq_query_function.specs.Matching.{Chosen}
use Rattle.bq_query_function.specs.Labels.{Related}

-- a set that is made of one set
pub data SetOfOne : Type 0 where
  -- what paths from it reach; with a number, those of at most so many edges
  reached : Option ℕ → SetOfOne
  -- those of it that pass a test
  chosen : (Target → Bool) → SetOfOne
  -- the targets to which one of it is related
  related : (Target → Target → Bool) → SetOfOne
  none : SetOfOne

-- a set that is made of two
pub data SetOfTwo : Type 0 where
  -- within what the first reaches: from where paths reach the second; with a number, those of at most so many edges
  reaching : Option ℕ → SetOfTwo
  -- all on the paths from the first to the second
  between : SetOfTwo
  none_of_two : SetOfTwo

-- target y is in what is made of the set `X`
abbrev pub OfOne : GraphParts → SetOfOne → (ℕ → Type 0) → ℕ → Type 0
OfOne w (reached None) X y = Deps w.edges X y
OfOne w (reached (Some n)) X y = DepsWithin w.edges X n y
OfOne w (chosen test) X y = Chosen test w.targets X y
OfOne w (related names) X y = Related names w.targets X y
OfOne w none X y = ⊥

-- target y is in what is made of the sets `X` and `Y`
abbrev pub OfTwo : GraphParts → SetOfTwo → (ℕ → Type 0) → (ℕ → Type 0) → ℕ → Type 0
OfTwo w (reaching None) X Y y = Rdeps w.edges X Y y
OfTwo w (reaching (Some n)) X Y y = RdepsWithin w.edges X Y n y
OfTwo w between X Y y = OnPaths w.edges X Y y
OfTwo w none_of_two X Y y = ⊥
