-- Targets, and which other targets each of them depends on (Bazel, "Dependencies"; Build Encyclopedia).
use Rattle.std.specs.Prelude.{ℕ, List, [], ◌∷◌, Bool, true, false, ◌&&◌, bytes_eq, map}
use Rattle.bq_label.specs.Label.{PackageParts, LabelParts}
use Rattle.bq_package_target.specs.declared.target.TargetKind.{TargetKind}
use Rattle.bq_package_target.specs.declared.target.TargetKind.TheVariants as k
use Rattle.bq_package_target.specs.declared.target.Target.{Target}
use Rattle.bq_package_target.specs.Value.{labels_in, outputs_in}

-- it is a source file
abbrev pub is_source : TargetKind → Bool
is_source k.Source = true
is_source _ = false

-- the label is of this package
unfoldable pub is_of : PackageParts → LabelParts → Bool
is_of own l = bytes_eq l.repo own.repo && bytes_eq l.package own.package

-- the names that targets have in their package
abbrev pub names_of : List Target → List (List ℕ)
names_of ts = map (λ t. t.label.name) ts

-- a source file, with the line of the call that exports it
abbrev pub source : LabelParts → ℕ → Target
source l line = record { label = l; kind = k.Source; attributes = []; line = line }

-- a file that a rule makes, with the line of the rule's call
abbrev pub generated : Target → LabelParts → Target
generated rule l = record { label = l; kind = k.Generated rule.label; attributes = []; line = rule.line }

-- what a target depends on: a file that a rule makes on its rule, a rule on what its attributes of types label and label_list name, a
-- group on what it includes, a source file on nothing
unfoldable pub dependencies : Target → List LabelParts
dependencies t = elim t.kind [ k.Generated rule ↦ rule ∷ [] | _ ↦ labels_in t.attributes ]

-- the targets that a call of a rule or of `package_group` declares: its own, and then the files that the rule makes
unfoldable pub declares : Target → List Target
declares t = t ∷ map (generated t) (outputs_in t.attributes)
