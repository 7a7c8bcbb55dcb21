-- What the definitions of queries say together.
use Rattle.std.specs.Prelude.{◌≡◌, ◌↔◌, ◌⊎◌, ℕ, ◌<◌, Bool, List, length, slice_index_or, Some, None}
use Rattle.std.specs.declared.cmp.Ordering.TheVariants.{Less}
use Rattle.bq_query_graph.specs.Marks.{IsSet}
use Rattle.bq_query_parse.specs.declared.tree.SetOperator.TheVariants as op
use Rattle.bq_query_function.specs.declared.functions.QueryFunction.TheVariants as f
use Rattle.bq_query_function.specs.Functions.{set_of_one, set_of_two}
use Rattle.bq_query_check.specs.Formula.{Formula, variable, let_in, combined, one, two}
use Rattle.bq_package_target.specs.declared.target.Target.{Target}
use Rattle.bq_query_function.specs.Order.{by_text}
use Rattle.bq_query_target_graph.specs.Graph.{GraphParts}
use Rattle.bq_query.specs.Stands.{Stands, Bound}

-- union, intersection and difference are those of sets
pub record AreOfSets (w : GraphParts) (a b : Formula) (bound : Bound) (y : ℕ) : Type 0 where
  pub union : Stands w (combined op.Union a b) bound y ↔ (Stands w a bound y ⊎ Stands w b bound y)
  pub intersection : Stands w (combined op.Intersect a b) bound y ↔ (Stands w a bound y × Stands w b bound y)
  pub difference : Stands w (combined op.Except a b) bound y ↔ (Stands w a bound y × (Stands w b bound y → ⊥))

-- dependencies hold their argument, dependents and paths lie among dependencies, and by at most n edges there are no more
pub record LieWithin (w : GraphParts) (a b : Formula) (n : ℕ) (bound : Bound) (y : ℕ) : Type 0 where
  pub argument : Stands w a bound y → Stands w (one (set_of_one f.Deps None None None) a) bound y
  pub near : Stands w (one (set_of_one f.Deps None None (Some n)) a) bound y → Stands w (one (set_of_one f.Deps None None None) a) bound y
  pub dependents : Stands w (two (set_of_two f.Rdeps None None None) a b) bound y → Stands w (one (set_of_one f.Deps None None None) a) bound y
  pub near_dependents : Stands w (two (set_of_two f.Rdeps None None (Some n)) a b) bound y → Stands w (two (set_of_two f.Rdeps None None None) a b) bound y
  pub paths : Stands w (two (set_of_two f.Allpaths None None None) a b) bound y → Stands w (one (set_of_one f.Deps None None None) a) bound y

-- `kind`, `filter` and `attr` keep members of their argument
pub record Keep (w : GraphParts) (a : Formula) (name pattern : List ℕ) (bound : Bound) (y : ℕ) : Type 0 where
  pub kind : Stands w (one (set_of_one f.Kind None (Some pattern) None) a) bound y → Stands w a bound y
  pub filter : Stands w (one (set_of_one f.Filter None (Some pattern) None) a) bound y → Stands w a bound y
  pub attr : Stands w (one (set_of_one f.Attr (Some name) (Some pattern) None) a) bound y → Stands w a bound y

-- `let name = a in $name` is a
abbrev pub IsItself : GraphParts → Formula → Bound → Type 0
IsItself w a bound = (marks : List Bool) → IsSet (length w.targets) marks (Stands w a bound) → (y : ℕ) → Stands w (let_in a (variable (length bound))) bound y ↔ Stands w a bound y

-- the label of each target of the answer comes before those of the targets after it, so none is there twice
abbrev pub LabelsAscend : List Target → List ℕ → Type 0
LabelsAscend targets answer =
    (i j : ℕ) (d : Target) → i < j → j < length answer → by_text (slice_index_or targets (slice_index_or answer i 0) d) (slice_index_or targets (slice_index_or answer j 0) d) ≡ Less
