-- Which targets depend on which, by their numbers.
use Rattle.std.specs.Prelude.{◌≡◌, ℕ, ◌+◌, ◌↔◌, List, [], ◌∷◌, ◌++◌, Bool, false, Option, Some, None, map, position, slice_get, if◌then◌else◌}
use Rattle.std.specs.List.{flat_map, Contains}
use Rattle.bq_label.specs.Label.{LabelParts}
use Rattle.bq_query_graph.specs.Edges.{Edge}
use Rattle.bq_query_graph.specs.Paths.{Pair}
use Rattle.bq_package_target.specs.declared.target.Target.{Target}
use Rattle.bq_package_target.specs.declared.target.TargetKind.TheVariants as k
use Rattle.bq_package_target.specs.Target.{dependencies}
use Rattle.bq_package_target.specs.Package.{PackageTargets}
use Rattle.bq_value_datum.specs.AttributeValue.{labels_of}
use Rattle.bq_label_set.specs.Labels.{same_label}
use Rattle.bq_package_target.specs.PackageOrder.{id_of}
use Rattle.bq_query_target_graph.specs.Order.{targets_of}
use Rattle.bq_query_target_graph.specs.Graph.{GraphParts}

-- of the targets with these numbers, the first depends on the second
pub record DependsOn (ts : List Target) (a b : ℕ) : Type 0 where
  pub source : Target
  pub from : slice_get ts a ≡ Some source
  pub target : Target
  pub to : slice_get ts b ≡ Some target
  pub named : Contains (dependencies source) target.label

-- the graph of the targets of packages: these targets in order, and an edge exactly where one depends on another
pub record IsGraphOf (ps : List PackageTargets) (g : GraphParts) : Type 0 where
  pub targets : g.targets ≡ targets_of ps
  pub packages : g.packages ≡ map id_of ps
  pub pairs : (a b : ℕ) → Pair g.edges a b ↔ DependsOn g.targets a b

-- ---- the labels of a target as they are looked up

-- the label is the same as the one before it, if there is one
abbrev pub repeats : Option LabelParts → LabelParts → Bool
repeats None l = false
repeats (Some before) l = same_label before l

-- labels, of which one that is named many times in a row is there once; `before` is the label before the first, if there is one
unfoldable pub unrepeated : Option LabelParts → List LabelParts → List LabelParts
unrepeated before [] = []
unrepeated before (l ∷ ls) = if repeats before l then unrepeated before ls else l ∷ unrepeated (Some l) ls

-- what a target depends on, with each attribute's labels in a row once
unfoldable pub looked_up : Target → List LabelParts
looked_up t = elim t.kind [ k.Generated rule ↦ rule ∷ [] | _ ↦ flat_map (λ a. unrepeated None (labels_of a.value)) t.attributes ]

-- ---- the list of edges

-- a list with the edge from target `a` to target b, by number; empty where no target has the label
abbrev pub edge_by : ℕ → Option ℕ → List Edge
edge_by a None = []
edge_by a (Some b) = record { from = a; to = b } ∷ []

-- the edges from the target of number `a` to the targets that these labels name, by the labels of all targets
abbrev pub edges_to : List LabelParts → ℕ → List LabelParts → List Edge
edges_to ls a named = flat_map (λ l. edge_by a (position (same_label l) ls)) named

-- the edges from targets, the first of which has the number `a`
unfoldable pub edges_from : List LabelParts → ℕ → List Target → List Edge
edges_from ls a [] = []
edges_from ls a (t ∷ ts) = edges_to ls a (looked_up t) ++ edges_from ls (a + 1) ts

-- ---- the rows of the graph

-- a list with the number; empty where no target has the label
abbrev pub number_by : Option ℕ → List ℕ
number_by None = []
number_by (Some b) = b ∷ []

-- the numbers of the targets that these labels name, by the labels of all targets
abbrev pub numbers_of : List LabelParts → List LabelParts → List ℕ
numbers_of ls named = flat_map (λ l. number_by (position (same_label l) ls)) named

-- the row of a target: the numbers of those that it depends on
abbrev pub row_of : List LabelParts → Target → List ℕ
row_of ls t = numbers_of ls (looked_up t)

-- the row of each target, in the order of the targets, by the labels of all targets
abbrev pub rows_of : List LabelParts → List Target → List (List ℕ)
rows_of ls ts = map (row_of ls) ts
