-- The labels of numbered targets.
use Rattle.std.specs.Prelude.{ℕ, List, [], ◌∷◌, Option, Some, None, slice_get}
use Rattle.std.specs.List.{flat_map}
use Rattle.bq_label.specs.Label.{LabelParts}
use Rattle.bq_package_target.specs.declared.target.Target.{Target}

-- a list with the target's label; empty where no target has the number
abbrev pub label_by : Option Target → List LabelParts
label_by None = []
label_by (Some t) = t.label ∷ []

-- the labels of the targets with these numbers
abbrev pub labels_at : List Target → List ℕ → List LabelParts
labels_at ts numbers = flat_map (λ at. label_by (slice_get ts at)) numbers
