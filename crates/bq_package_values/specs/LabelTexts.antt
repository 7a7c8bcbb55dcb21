-- The labels that the texts of a call stand for (Bazel, "Labels"): F78 where a text is no label, F75 where it is no name of a target, and
-- F37 where it names a file of another package.
use Rattle.std.specs.Prelude.{◌≡◌, ℕ, ◌-◌, ◌==◌, List, [], ◌∷◌, length, slice_get, Option, Some, None, Result, Ok, Err, if◌then◌else◌}
use Rattle.std.specs.Option.{ForSome}
use Rattle.bq_base.specs.declared.fault.EvalFault.{EvalFault}
use Rattle.bq_base.specs.declared.fault.EvalFault.TheVariants.{BadLabel, BadName}
use Rattle.bq_label.specs.declared.packages.BuildFile.{BuildFile}
use Rattle.bq_label.specs.Label.{PackageParts, LabelParts, label_in}
use Rattle.bq_label.specs.Paths.{is_path}
use Rattle.bq_label.specs.Reading.{label_of}
use Rattle.bq_package_values.specs.declared.label_texts.TextKind.{TextKind}
use Rattle.bq_package_values.specs.declared.label_texts.TextKind.TheVariants as k
use Rattle.bq_package_values.specs.Steps.{and_then, in_turn}
use Rattle.bq_package_values.specs.Scope.{inside, all_inside}

-- a target of this package by its name
abbrev pub named : PackageParts → List ℕ → Result LabelParts EvalFault
named own name = if is_path name then Ok (label_in own name) else Err BadName

-- a colon may precede the name of an output
unfoldable pub without_colon : List ℕ → List ℕ
without_colon [] = []
without_colon (b ∷ bs) = if b == 58 then bs else b ∷ bs

-- the label that a text stands for in a package
unfoldable pub read : PackageParts → TextKind → List ℕ → Result LabelParts EvalFault
read own k.Label text = elim (label_of own text) [ None ↦ Err BadLabel | Some l ↦ Ok l ]
read own k.Name text = named own text
read own k.Output text = named own (without_colon text)

-- the last of the labels, if there is one, is the text's
abbrev pub IsReadLast : PackageParts → TextKind → List ℕ → List LabelParts → Type 0
IsReadLast own kind text labels = ForSome (slice_get labels (length labels - 1)) (λ l. read own kind text ≡ Ok l)

-- the labels of texts
unfoldable pub read_all : PackageParts → TextKind → List (List ℕ) → Result (List LabelParts) EvalFault
read_all own kind texts = in_turn (read own kind) [] texts

-- the same, and none crosses into another package
unfoldable pub label : PackageParts → List BuildFile → TextKind → List ℕ → Result LabelParts EvalFault
label own packages kind text = and_then (read own kind text) (inside own packages)

-- each text is read first, and then it is seen whether a label crosses into another package
unfoldable pub labels : PackageParts → List BuildFile → TextKind → List (List ℕ) → Result (List LabelParts) EvalFault
labels own packages kind texts = and_then (read_all own kind texts) (all_inside own packages)
