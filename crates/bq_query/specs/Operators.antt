-- What operators make of sets (Bazel query reference, "Set operations").
use Rattle.std.specs.Prelude.{◌⊎◌, ℕ}
use Rattle.bq_query_parse.specs.declared.tree.SetOperator.{SetOperator}
use Rattle.bq_query_parse.specs.declared.tree.SetOperator.TheVariants as op

-- union, intersection and difference
abbrev pub Combined : SetOperator → (ℕ → Type 0) → (ℕ → Type 0) → ℕ → Type 0
Combined op.Union X Y y = X y ⊎ Y y
Combined op.Intersect X Y y = X y × Y y
Combined op.Except X Y y = X y × (Y y → ⊥)
