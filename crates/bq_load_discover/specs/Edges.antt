-- Which module loads which, by their numbers.
use Rattle.std.specs.Prelude.{◌≡◌, ℕ, List, [], map, Option, position}
use Rattle.std.specs.List.{filter_map}
use Rattle.bq_label.specs.Label.{LabelParts}
use Rattle.bq_label_set.specs.Labels.{same_label, with_labels}
use Rattle.bq_base.specs.declared.limits.Limits.{Limits}
use Rattle.bq_board_plan.specs.Graph.{Loads, Fits}
use Rattle.bq_load_front.specs.Front.{loads_by}
use Rattle.bq_load_discover.specs.declared.modules.Module.{Module}
use Rattle.bq_load_discover.specs.declared.load_err.LoadErr.{LoadErr}
use Rattle.bq_load_discover.specs.declared.load_err.LoadErr.TheVariants as e

-- the number of a label: its place among the labels
abbrev pub number_in : List LabelParts → LabelParts → Option ℕ
number_in ls l = position (same_label l) ls

-- the numbers of the files that loads name, each once, in the order in which they are first named
abbrev pub row_of : List LabelParts → List LabelParts → List ℕ
row_of ls loads = filter_map (number_in ls) (with_labels [] loads)

-- what each module loads
abbrev pub rows_of : List LabelParts → List Module → Loads
rows_of ls ms = map (λ m. row_of ls (loads_by m.front)) ms

-- the edges are refused only where they are too many, memory aside
abbrev pub RefusesEdges : Limits → Loads → LoadErr → Type 0
RefusesEdges limits p why = (why ≡ e.TooManyModules → ¬ Fits limits p) × ((line : ℕ) → ¬ (why ≡ e.Schema line))
