-- How kinds and values are written.
use Rattle.std.proofs.Common.{◌≡◌, ◌∙◌, ℕ, List, [], ◌∷◌, ◌++◌, refl, sym, ap, append_assoc, append-nil}
use Rattle.std.specs.Fmt.{digits}
use Rattle.std.specs.Prelude.{codes}
use Rattle.bq_label.specs.Label.{LabelParts, full_form}
use Rattle.bq_value_datum.specs.Class.{Class}
use Rattle.bq_predeclared.specs.declared.attribute_type.AttributeType.TheVariants as t
use Rattle.bq_value_datum.specs.ListText.{items, list_text, further}
use Rattle.bq_value_datum.specs.AttributeValue.{value_text, default_text}
use Rattle.bq_query_function.specs.Texts.{kind_text}
use Rattle.bq_run_laws.specs.Texts.{KindsInWords, SingleValues, ListValues, ListsGoOn, LabelsAsStrings, DefaultsAreEmptyValues}

pub kinds_in_words : (class : Class) (rule : LabelParts) → KindsInWords class rule
unfolding kind_text
kinds_in_words class rule = record { library = refl; test = refl; source = refl; generated = refl; group = refl }

pub single_values : SingleValues
unfolding value_text full_form digits
single_values = record { string = refl; empty = refl; int = refl; negative = refl; yes = refl; no = refl; own = refl; other = refl }

pub list_values : ListValues
unfolding value_text list_text full_form
list_values = record { none = refl; one = refl; two = refl; three = refl; labels = refl }

-- an element more is written after the others
further_more : (xs : List (List ℕ)) (y : List ℕ) → further (xs ++ y ∷ []) ≡ further xs ++ (codes ", " ++ y)
further_more [] y = ap (λ (t : List ℕ). codes ", " ++ t) (append-nil y)
further_more (x ∷ xs) y =
    ap (λ (t : List ℕ). (codes ", " ++ x) ++ t) (further_more xs y) ∙ sym (append_assoc (codes ", " ++ x) (further xs) (codes ", " ++ y))

items_more : (before : List (List ℕ)) (x y : List ℕ) → items (before ++ x ∷ y ∷ []) ≡ items (before ++ x ∷ []) ++ (codes ", " ++ y)
items_more [] x y = ap (λ (t : List ℕ). x ++ t) (further_more [] y) ∙ ap (λ (t : List ℕ). t ++ (codes ", " ++ y)) (sym (append-nil x))
items_more (z ∷ zs) x y =
    ap (λ (t : List (List ℕ)). z ++ further t) (sym (append_assoc zs (x ∷ []) (y ∷ [])))
    ∙ (ap (λ (t : List ℕ). z ++ t) (further_more (zs ++ x ∷ []) y) ∙ sym (append_assoc z (further (zs ++ x ∷ [])) (codes ", " ++ y)))

pub lists_go_on : ListsGoOn
unfolding value_text list_text
lists_go_on before x y =
    let inside = items (before ++ x ∷ []) in
    (inside, refl, ap (λ (t : List ℕ). codes "[" ++ (t ++ codes "]")) (items_more before x y) ∙ ap (λ (t : List ℕ). codes "[" ++ t) (append_assoc inside (codes ", " ++ y) (codes "]")))

pub labels_as_strings : (l : LabelParts) (ls : List LabelParts) → LabelsAsStrings l ls
unfolding value_text
labels_as_strings l ls = record { label = refl; labels = refl; output = refl; outputs = refl }

pub defaults_are_empty_values : DefaultsAreEmptyValues
unfolding value_text list_text default_text digits
defaults_are_empty_values t.String = refl
defaults_are_empty_values _ = refl
