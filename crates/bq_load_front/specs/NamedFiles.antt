-- The files that the loads of a file name: each once, and for each load the place of its file among them.
use Rattle.std.specs.Prelude.{◌≡◌, ℕ, List, [], map, Option, Some, slice_get, position, option_and_then}
use Rattle.std.specs.List.{filter_map}
use Rattle.bq_label.specs.Label.{LabelParts}
use Rattle.bq_label_set.specs.Labels.{same_label, with_labels}

-- the labels at these places
abbrev pub labels_at : List LabelParts → List ℕ → List LabelParts
labels_at files places = filter_map (slice_get files) places

-- each place has a file, and the files are just those, each once, in the order in which they are first named
pub record AreNamed (files : List LabelParts) (places : List ℕ) : Type 0 where
  pub placed : map (slice_get files) places ≡ map (λ l. Some l) (labels_at files places)
  pub once : files ≡ with_labels [] (labels_at files places)

-- the place of the file that a load names, among the files that the loads name, each once
abbrev pub place_named : List LabelParts → ℕ → Option ℕ
place_named ls load = option_and_then (λ l. position (same_label l) (with_labels [] ls)) (slice_get ls load)
