-- What the functions over edges stand for, in words of targets and the labels that they write (Bazel query reference, "deps", "rdeps",
-- "allpaths").
use Rattle.std.specs.Prelude.{◌≡◌, ◌↔◌, ℕ, zero, suc, ◌≤◌, List, Some, None, slice_get}
use Rattle.bq_query_function.specs.declared.functions.QueryFunction.TheVariants as f
use Rattle.bq_query_function.specs.Functions.{set_of_one, set_of_two}
use Rattle.bq_query_check.specs.Formula.{Formula, one, two}
use Rattle.bq_package_target.specs.declared.target.Target.{Target}
use Rattle.bq_package_target.specs.Package.{PackageTargets}
use Rattle.bq_query_target_graph.specs.Edges.{IsGraphOf}
use Rattle.bq_package_target.specs.Dependencies.{Depends}
use Rattle.bq_query.specs.Stands.{Stands, Bound}
use Rattle.bq_query_target_graph.specs.Graph.{GraphParts}

-- an edge: the first target writes the label of the second
pub record IsEdge (ts : List Target) (a b : ℕ) : Type 0 where
  pub source : Target
  pub from : slice_get ts a ≡ Some source
  pub target : Target
  pub to : slice_get ts b ≡ Some target
  pub depends : Depends source target.label

-- a number of edges, one after another, lead from one target to another
abbrev pub EdgesLead : List Target → ℕ → ℕ → ℕ → Type 0
EdgesLead ts zero a c = a ≡ c
EdgesLead ts (suc n) a c = (b : ℕ) × IsEdge ts a b × EdgesLead ts n b c

-- `n` edges lead from a target of the set to this one
pub record IsReached (ts : List Target) (n : ℕ) (X : ℕ → Type 0) (y : ℕ) : Type 0 where
  pub from : ℕ
  pub starts : X from
  pub lead : EdgesLead ts n from y

-- `n` edges lead from this target to one of the set
pub record LeadsInto (ts : List Target) (n : ℕ) (X : ℕ → Type 0) (y : ℕ) : Type 0 where
  pub to : ℕ
  pub ends : X to
  pub lead : EdgesLead ts n y to

-- over the graph of packages, what each of them stands for by the edges
pub record AreByEdges (w : GraphParts) (a b : Formula) (n : ℕ) (bound : Bound) (y : ℕ) : Type 0 where
  -- deps(a)
  pub deps : Stands w (one (set_of_one f.Deps None None None) a) bound y ↔ ((k : ℕ) × IsReached w.targets k (Stands w a bound) y)
  -- deps(a, n)
  pub deps_within : Stands w (one (set_of_one f.Deps None None (Some n)) a) bound y ↔ ((k : ℕ) × (k ≤ n) × IsReached w.targets k (Stands w a bound) y)
  -- rdeps(a, b)
  pub rdeps : Stands w (two (set_of_two f.Rdeps None None None) a b) bound y ↔ (Stands w (one (set_of_one f.Deps None None None) a) bound y × ((k : ℕ) × LeadsInto w.targets k (Stands w b bound) y))
  -- rdeps(a, b, n)
  pub rdeps_within : Stands w (two (set_of_two f.Rdeps None None (Some n)) a b) bound y ↔ (Stands w (one (set_of_one f.Deps None None None) a) bound y × ((k : ℕ) × (k ≤ n) × LeadsInto w.targets k (Stands w b bound) y))
  -- allpaths(a, b)
  pub allpaths : Stands w (two (set_of_two f.Allpaths None None None) a b) bound y ↔ (Stands w (one (set_of_one f.Deps None None None) a) bound y × ((k : ℕ) × LeadsInto w.targets k (Stands w b bound) y))

-- over the graph of any packages, `deps`, `rdeps` and `allpaths` stand for what the edges say
abbrev pub FunctionsByEdges : Type 0
FunctionsByEdges = (ps : List PackageTargets) (w : GraphParts) (a b : Formula) (n : ℕ) (bound : Bound) (y : ℕ) → IsGraphOf ps w → AreByEdges w a b n bound y
