-- Words of the laws.
use Rattle.std.specs.Prelude.{◌≡◌, ◌↔◌, ◌⊎◌, ℕ, List, [], ◌++◌, Some, position, slice_get}
use Rattle.std.specs.List.{Contains, IsDistinct}
use Rattle.bq_label.specs.Label.{LabelParts}
use Rattle.bq_label_set.specs.Labels.{same_label, with_labels}

-- no label is twice in the set of these labels
abbrev pub EachLabelOnce : Type 0
EachLabelOnce = (ls : List LabelParts) → IsDistinct same_label (with_labels [] ls)

-- labels with others added to them are exactly the labels of both
abbrev pub TheLabelsAdded : Type 0
TheLabelsAdded = (ls ms : List LabelParts) (l : LabelParts) → Contains (with_labels ls ms) l ↔ (Contains ls l ⊎ Contains ms l)

-- labels that are added come after those that are there, which keep their numbers
abbrev pub NumbersStay : Type 0
NumbersStay = (ls ms : List LabelParts) → (added : List LabelParts) × (with_labels ls ms ≡ ls ++ added)

-- where no label is there twice, the number of a label is its place, counted from 0
abbrev pub LabelsWithNumbers : Type 0
LabelsWithNumbers = (ls : List LabelParts) (l : LabelParts) (n : ℕ) → IsDistinct same_label ls → (position (same_label l) ls ≡ Some n) ↔ (slice_get ls n ≡ Some l)

-- the set of labels none of which is there twice is these labels, in their order
abbrev pub ThoseThatDiffer : Type 0
ThoseThatDiffer = (ls : List LabelParts) → IsDistinct same_label ls → with_labels [] ls ≡ ls
