-- The targets that an attribute of a rule names (Bazel query reference, `labels`).
use Rattle.std.specs.Prelude.{ℕ, Bool, List, [], Some, None, slice_get, IsSomeAnd, if◌then◌else◌}
use Rattle.std.specs.List.{list_any}
use Rattle.bq_label.specs.Label.{LabelParts, full_form}
use Rattle.bq_package_target.specs.declared.target.Target.{Target}
use Rattle.bq_value_datum.specs.AttributeValue.{all_labels_of}
use Rattle.bq_query_function.specs.Order.{is_text}
use Rattle.bq_query_function.specs.Words.{Those, is_rule}
use Rattle.bq_query_function.specs.Texts.{given}

-- the labels that a target's attribute names, if it is there and of type label, label_list, output or output_list; rules alone have attributes
unfoldable pub labels_named : List ℕ → Target → List LabelParts
labels_named name t = if is_rule t then elim (given name t) [ Some a ↦ all_labels_of a.value | None ↦ [] ] else []

-- one of the labels is the target's
abbrev pub is_among : List LabelParts → Target → Bool
is_among ls t = list_any (λ l. is_text (full_form l) t) ls

-- the attribute of this name of the first target names the second
abbrev pub is_named_by : List ℕ → Target → Target → Bool
is_named_by name t = is_among (labels_named name t)

-- the targets to which one of the set is related
abbrev pub Related : (Target → Target → Bool) → List Target → (ℕ → Type 0) → ℕ → Type 0
Related names targets X y = (k : ℕ) × X k × IsSomeAnd (slice_get targets k) (λ t. Those (names t) targets y)

-- `labels(name, x)`: the targets whose labels are in the attribute of a target of the set
abbrev pub Labels : List ℕ → List Target → (ℕ → Type 0) → ℕ → Type 0
Labels name targets X y = Related (is_named_by name) targets X y
