-- Calls of `package_group` (Bazel, Build Encyclopedia, "Functions"): F52, F73, then the faults of the name (F75, F37) and of the included
-- groups (F78, F37), in the order in which the two are written. What `packages` has isn't read (ours: there are no checks of
-- visibility).
use Rattle.std.specs.Prelude.{ℕ, Bool, true, false, ◌||◌, List, [], ◌∷◌, Option, Result, Ok, codes, bytes_eq, if◌then◌else◌}
use Rattle.bq_base.specs.declared.fault.EvalFault.{EvalFault}
use Rattle.bq_label.specs.Label.{LabelParts}
use Rattle.bq_value.specs.Datum.{Datum}
use Rattle.bq_value.specs.Cells.{StoreView}
use Rattle.bq_value.specs.Truth.{some_element}
use Rattle.bq_builtin_machine.specs.Args.{Passed}
use Rattle.bq_builtin_machine.specs.Binding.{bind}
use Rattle.bq_package_target.specs.declared.target.Target.{Target}
use Rattle.bq_package_target.specs.declared.target.TargetKind.TheVariants as target
use Rattle.bq_value_datum.specs.declared.attribute_value.AttributeValue.TheVariants as a
use Rattle.bq_package_values.specs.declared.label_texts.TextKind.TheVariants as k
use Rattle.bq_package_values.specs.Steps.{and_then}
use Rattle.bq_package_values.specs.LabelTexts.{label, labels}
use Rattle.bq_package.specs.Place.{PlaceView}
use Rattle.bq_package_values.specs.Parameters.{argument}
use Rattle.bq_package.specs.Bound.{group_parameters, text_of, texts_of}

-- the name isn't written after the included groups, among named arguments
unfoldable pub is_name_first : List (List ℕ × Datum) → Bool
is_name_first [] = true
is_name_first (argument ∷ arguments) =
    if bytes_eq argument.0 (codes "includes") then false else (if bytes_eq argument.0 (codes "name") then true else is_name_first arguments)

-- the same of all arguments: a positional one is the name
abbrev pub names_first : Passed → Bool
names_first p = some_element p.positional || is_name_first p.named

-- the target that `package_group` declares
abbrev pub group : ℕ → LabelParts → List LabelParts → Target
group line l includes = record { label = l; kind = target.Group; attributes = record { name = codes "includes"; value = a.LabelList includes } ∷ []; line = line }

-- the labels of a group and of those that it includes
unfoldable pub group_labels : PlaceView → Bool → List ℕ → List (List ℕ) → Result (LabelParts × List LabelParts) EvalFault
group_labels p first name includes =
    if first then and_then (label p.own p.packages k.Name name) (λ l. and_then (labels p.own p.packages k.Label includes) (λ ls. Ok (l, ls)))
    else and_then (labels p.own p.packages k.Label includes) (λ ls. and_then (label p.own p.packages k.Name name) (λ l. Ok (l, ls)))

-- the group that the arguments of the parameters declare
unfoldable pub group_of : PlaceView → StoreView → ℕ → Bool → List (Option Datum) → Result Target EvalFault
group_of p store line first values =
    and_then (text_of (argument values 0)) (λ name.
    and_then (texts_of store (argument values 2)) (λ includes.
    and_then (group_labels p first name includes) (λ r. Ok (group line r.0 r.1))))

-- the group that a call declares
unfoldable pub group_named : PlaceView → StoreView → ℕ → Passed → Result Target EvalFault
group_named p store line passed = and_then (bind group_parameters passed) (λ b. group_of p store line (names_first passed) b.values)
