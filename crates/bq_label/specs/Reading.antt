-- How the texts of labels and packages are read: functions that return what the forms of `Label.antt` say (the laws `forms_of_a_label`,
-- `forms_of_a_package`).
use Rattle.std.specs.Prelude.{ℕ, ◌==◌, ◌&&◌, Bool, false, List, [], ◌∷◌, Option, Some, None, Result, Ok, Err, drop, if◌then◌else◌, option_and_then}
use Rattle.std.specs.Option.{option_map}
use Rattle.bq_base.specs.Fault.{fault_at}
use Rattle.bq_base.specs.declared.fault.EvalFault.{EvalFault}
use Rattle.bq_base.specs.declared.fault.Fault.{Fault}
use Rattle.bq_base.specs.declared.fault.EvalFault.TheVariants.{BadLabel}
use Rattle.bq_label.specs.Paths.{is_path, is_package, is_repository}
use Rattle.bq_label.specs.Label.{PackageParts, LabelParts, package_at, label_at, label_in, last_segment, at_sign}

-- the text before the first such byte, and the text after it
unfoldable pub split_once : ℕ → List ℕ → Option (List ℕ × List ℕ)
split_once c [] = None
split_once c (b ∷ bs) = if b == c then Some ([], bs) else option_map (λ p. (b ∷ p.0, p.1)) (split_once c bs)

-- what follows `//`: `package:name` or `package`
unfoldable pub absolute_label : List ℕ → List ℕ → LabelParts
absolute_label repo text = elim (split_once 58 text) [ None ↦ label_at repo text (last_segment text) | Some p ↦ label_at repo p.0 p.1 ]

-- a text begins with a byte
abbrev pub first_is : ℕ → List ℕ → Bool
first_is c [] = false
first_is c (b ∷ bs) = b == c

-- what follows `@`: without `//` it is the target of the repository's own name
unfoldable pub external_label : List ℕ → Option LabelParts
external_label text = elim (split_once 47 text) [
  | None ↦ Some (label_at text [] text)
  | Some p ↦
      if first_is 47 p.1 then Some (absolute_label p.0 (drop 1 p.1)) else None
]

-- the parts that a text names, which may be invalid
unfoldable pub parts_of : PackageParts → List ℕ → Option LabelParts
parts_of own [] = Some (label_in own [])
parts_of own (b ∷ bs) =
    if b == at_sign then external_label bs
    else if b == 47 && first_is 47 bs then Some (absolute_label own.repo (drop 1 bs))
    else if b == 58 then Some (label_in own bs)
    else Some (label_in own (b ∷ bs))

-- each part of a label has the form that it needs
unfoldable pub is_label : LabelParts → Bool
is_label l = is_repository l.repo && is_package l.package && is_path l.name

-- a label, if its parts have their forms
unfoldable pub valid_label : LabelParts → Option LabelParts
valid_label l = if is_label l then Some l else None

-- the label that a text reads as in a file of the package `own`
unfoldable pub label_of : PackageParts → List ℕ → Option LabelParts
label_of own text = option_and_then valid_label (parts_of own text)

-- a label, or fault F78 where there is none
abbrev pub or_bad_label : Option LabelParts → Result LabelParts (Fault EvalFault)
or_bad_label None = Err (fault_at BadLabel 0)
or_bad_label (Some l) = Ok l

-- ---- packages

-- the parts of the package that a text names, which may be invalid: behind `@` a repository, `//` and a path
unfoldable pub package_parts : List ℕ → Option PackageParts
package_parts [] = None
package_parts (b ∷ bs) =
    if b == at_sign then elim (split_once 47 bs) [ None ↦ None | Some p ↦ if first_is 47 p.1 then Some (package_at p.0 (drop 1 p.1)) else None ]
    else if b == 47 && first_is 47 bs then Some (package_at [] (drop 1 bs))
    else None

-- a package, if its parts have their forms
unfoldable pub package_if_valid : PackageParts → Option PackageParts
package_if_valid p = if is_repository p.repo && is_package p.package then Some p else None

-- the package that a text names
unfoldable pub package_of_text : List ℕ → Option PackageParts
package_of_text text = option_and_then package_if_valid (package_parts text)
