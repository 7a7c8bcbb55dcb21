-- The set of targets, by their numbers, that a formula stands for (Bazel query reference, "Functions"). The sets that the lets around it
-- bind come with it, the outermost one first.
use Rattle.std.specs.Prelude.{◌≡◌, ℕ, length, Bool, List, [], ◌∷◌, ◌++◌, slice_index_or}
use Rattle.std.specs.List.{All}
use Rattle.bq_query_graph.specs.Marks.{IsSet, Marked}
use Rattle.bq_query_check.specs.Formula.{Formula, named, variable, let_in, combined, one, two}
use Rattle.bq_query_function.specs.Words.{Those, one_names}
use Rattle.bq_query_target_graph.specs.Graph.{GraphParts}
use Rattle.bq_query_function.specs.Sets.{OfOne, OfTwo}
use Rattle.bq_query.specs.Operators.{Combined}

-- the sets that lets bind, as marks of the targets
abbrev pub Bound : Type 0
Bound = List (List Bool)

-- each is a set of the targets
abbrev pub AreSets : GraphParts → Bound → Type 0
AreSets w bound = All (λ set. length set ≡ length w.targets) bound

-- target y is in the set
abbrev pub Stands : GraphParts → Formula → Bound → ℕ → Type 0
Stands w (named patterns) bound y = Those (one_names patterns) w.targets y
Stands w (variable k) bound y = Marked (slice_index_or bound k []) y
Stands w (let_in a b) bound y = (set : List Bool) × IsSet (length w.targets) set (Stands w a bound) × Stands w b (bound ++ set ∷ []) y
Stands w (combined o a b) bound y = Combined o (Stands w a bound) (Stands w b bound) y
Stands w (one s a) bound y = OfOne w s (Stands w a bound) y
Stands w (two s a b) bound y = OfTwo w s (Stands w a bound) (Stands w b bound) y
