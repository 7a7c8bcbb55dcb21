-- The modules of a load graph as their files read after a change.
use Rattle.std.specs.Prelude.{◌≡◌, ℕ, ◌+◌, ◌&&◌, Bool, true, false, List, [], ◌∷◌, map, Option, is_some}
use Rattle.bq_label.specs.Label.{LabelParts}
use Rattle.bq_label_set.specs.Labels.{same_label, with_labels}
use Rattle.bq_load_front.specs.Front.{loads_by}
use Rattle.bq_load_front.specs.Inputs.{InputParts}
use Rattle.bq_load_discover.specs.declared.modules.Module.{Module}
use Rattle.bq_load_discover.specs.Module.{module_of}
use Rattle.bq_load_order.specs.Again.{number_at}

-- there are no labels in the list
abbrev pub no_label : List LabelParts → Bool
no_label [] = true
no_label (l ∷ ls) = false

-- the labels are the same, in order
unfoldable pub have_same_labels : List LabelParts → List LabelParts → Bool
have_same_labels [] ks = no_label ks
have_same_labels (l ∷ ls) [] = false
have_same_labels (l ∷ ls) (k ∷ ks) = same_label l k && have_same_labels ls ks

-- what the files of these modules read as
abbrev pub modules_in : InputParts → List Module → List Module
modules_in inputs ms = map (λ s. module_of inputs s.label) ms

-- the files that a module loads, each once
abbrev pub loaded_by_one : Module → List LabelParts
loaded_by_one s = with_labels [] (loads_by s.front)

-- those of all these modules
abbrev pub all_loaded : List Module → List (List LabelParts)
all_loaded ms = map loaded_by_one ms

-- each of these modules, the first of which is at place n, is what its file reads as if it has a number
abbrev pub AreAsRead : InputParts → List (Option ℕ) → ℕ → List Module → Type 0
AreAsRead inputs was n [] = Unit {0}
AreAsRead inputs was n (s ∷ ss) = (is_some (number_at was n) ≡ true → s ≡ module_of inputs s.label) × AreAsRead inputs was (n + 1) ss
