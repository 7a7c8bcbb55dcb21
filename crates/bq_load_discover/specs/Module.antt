-- Modules, and their order.
use Rattle.std.specs.Prelude.{◌≡◌, List, map}
use Rattle.std.specs.List.{All}
use Rattle.std.specs.declared.cmp.Ordering.{Ordering}
use Rattle.std.specs.Cmp.{IsTotalOrder}
use Rattle.std.specs.Cmp.Lexicographic.{slice_cmp, on_texts}
use Rattle.std.specs.Ordering.{nat_cmp, on}
use Rattle.bq_label.specs.Label.{LabelParts, IsLabel, full_form}
use Rattle.bq_load_front.specs.Inputs.{InputParts}
use Rattle.bq_load_front.specs.Front.{front_of}
use Rattle.bq_load_discover.specs.declared.modules.Module.{Module}

-- the module of a label, with what its file gives
abbrev pub module_of : InputParts → LabelParts → Module
module_of inputs l = record { label = l; front = front_of inputs l }

-- the module has what the file of its label gives
abbrev pub IsRead : InputParts → Module → Type 0
IsRead inputs m = m ≡ module_of inputs m.label

-- the label of each module, in the modules' order
abbrev pub labels_of : List Module → List LabelParts
labels_of ms = map (λ m. m.label) ms

-- the modules have valid labels
abbrev pub AreValid : List Module → Type 0
AreValid ms = All (λ m. IsLabel m.label) ms

-- labels by the bytes of their full forms
abbrev pub label_cmp : LabelParts → LabelParts → Ordering
label_cmp = on full_form (slice_cmp nat_cmp)

-- the order of labels is total: reversed where two are swapped, transitive, and alike for those that compare as equal
pub label_cmp_total : IsTotalOrder label_cmp
label_cmp_total = on_texts full_form

-- modules by their labels
abbrev pub module_cmp : Module → Module → Ordering
module_cmp = on (λ m. full_form m.label) (slice_cmp nat_cmp)

-- the order of modules is total: reversed where two are swapped, transitive, and alike for those that compare as equal
pub module_cmp_total : IsTotalOrder module_cmp
module_cmp_total = on_texts (λ m. full_form m.label)
