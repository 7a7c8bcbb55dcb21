-- The name that the arguments of a call give is of the package, and so are the files that the rule makes.
use Rattle.std.proofs.Common.{◌≡◌, ℕ, Bool, true, false, List, [], ◌∷◌, ◌++◌, Option, Some, None, Ok, refl, subst, codes}
use Rattle.std.specs.Prelude.{bytes_eq, cond}
use Rattle.std.specs.List.{list_all}
use Rattle.std.proofs.lemmas.List.Folds.{list_all-append}
use Rattle.std.proofs.lemmas.Grind.{flat_map-append}
use Rattle.bq_base.specs.declared.fault.EvalFault.TheVariants as f
use Rattle.bq_label.specs.declared.packages.BuildFile.{BuildFile}
use Rattle.bq_label.specs.Label.{PackageParts, LabelParts}
use Rattle.bq_predeclared.specs.declared.attribute_type.AttributeType.{AttributeType}
use Rattle.bq_value_datum.specs.Class.{Class}
use Rattle.bq_value_datum.specs.declared.attribute_value.AttributeValue.{AttributeValue}
use Rattle.bq_value_datum.specs.declared.attribute_value.AttributeValue.TheVariants as a
use Rattle.bq_package_target.specs.declared.value.GivenAttribute.{GivenAttribute}
use Rattle.bq_package_target.specs.Target.{is_of}
use Rattle.bq_value_datum.specs.AttributeValue.{outputs_of}
use Rattle.bq_package_target.specs.Value.{outputs_in, attribute_type}
use Rattle.bq_value.specs.Datum.{Datum}
use Rattle.bq_value.specs.Cells.{StoreView}
use Rattle.bq_package_values.specs.declared.label_texts.TextKind.TheVariants as k
use Rattle.bq_package_values.specs.Steps.{and_then}
use Rattle.bq_package_values.specs.Texts.{text_in}
use Rattle.bq_package_values.specs.LabelTexts.{label}
use Rattle.bq_package_values.specs.Values.{value_as}
use Rattle.bq_package_values.proofs.Own.{HasOwnOutputs, name_label_own, value_own}
use Rattle.bq_package_values.proofs.Steps.{both_ok}
use Rattle.bq_package_attributes.specs.declared.arguments.Given.{Given}
use Rattle.bq_package_attributes.specs.Arguments.{is_none, with_value, with_label, with_name, with_attribute, with_argument, with_arguments, keyword}
use Rattle.bq_package_attributes.proofs.DeclarationCases.{with_attribute_by}

-- ---- arguments

abbrev pub IsOwnName : PackageParts → Option LabelParts → Type 0
IsOwnName own None = Unit {0}
IsOwnName own (Some l) = is_of own l ≡ true

pub record IsOwnGiven (own : PackageParts) (g : Given) : Type 0 where
  pub name : IsOwnName own g.name
  pub outputs : list_all (is_of own) (outputs_in g.attributes) ≡ true

outputs_more : (own : PackageParts) (gs : List GivenAttribute) (name : List ℕ) (v : AttributeValue) → list_all (is_of own) (outputs_in gs) ≡ true → HasOwnOutputs own v
    → list_all (is_of own) (outputs_in (gs ++ record { name = name; value = v } ∷ [])) ≡ true
outputs_more own gs name v past now =
    let g : GivenAttribute = record { name = name; value = v } in
    rw (flat_map-append (λ (x : GivenAttribute). outputs_of x.value) gs (g ∷ []), list_all-append (is_of own) (outputs_in gs) (outputs_in (g ∷ [])), past, list_all-append (is_of own) (outputs_of v) [], now) refl

value_given_own : (own : PackageParts) (g : Given) (name : List ℕ) (v : AttributeValue) → IsOwnGiven own g → HasOwnOutputs own v → IsOwnGiven own (with_value name v g)
value_given_own own g name v past now = record { name = past.name; outputs = outputs_more own g.attributes name v past.outputs now }

text_named_own : (own : PackageParts) (packages : List BuildFile) (v : Datum) (g after : Given)
    → and_then (text_in f.AttributeType v) (λ text. and_then (label own packages k.Name text) (λ l. Ok (with_label text l g))) ≡ Ok after → IsOwnGiven own g → IsOwnGiven own after
text_named_own own packages v g after h past =
    let r = both_ok (text_in f.AttributeType v) (λ text. and_then (label own packages k.Name text) (λ l. Ok (with_label text l g))) after h in
    let q = both_ok (label own packages k.Name r.0) (λ l. Ok (with_label r.0 l g)) after r.2 in
    let e : with_label r.0 q.0 g ≡ after = cc in
    subst (IsOwnGiven own) e (record {
      name = name_label_own own packages r.0 q.0 q.1;
      outputs = outputs_more own g.attributes (codes "name") (a.String r.0) past.outputs refl;
    })

same_own : (own : PackageParts) (g after : Given) → g ≡ after → IsOwnGiven own g → IsOwnGiven own after
same_own own g after e past = subst (IsOwnGiven own) e past

name_given_own : (own : PackageParts) (packages : List BuildFile) (v : Datum) (g after : Given) → with_name own packages v g ≡ Ok after → IsOwnGiven own g → IsOwnGiven own after
unfolding with_name
name_given_own own packages v g after h past = by (is_none v) h
  where
    by : (b : Bool) → cond b (Ok g) (and_then (text_in f.AttributeType v) (λ text. and_then (label own packages k.Name text) (λ l. Ok (with_label text l g)))) ≡ Ok after → IsOwnGiven own after
    by true e = let is : g ≡ after = cc in same_own own g after is past
    by false e = text_named_own own packages v g after e past

typed_given_own : (own : PackageParts) (packages : List BuildFile) (store : StoreView) (kind : AttributeType) (name : List ℕ) (v : Datum) (g after : Given)
    → and_then (value_as own packages store kind v) (λ value. Ok (with_value name value g)) ≡ Ok after → IsOwnGiven own g → IsOwnGiven own after
typed_given_own own packages store kind name v g after h past =
    let r = both_ok (value_as own packages store kind v) (λ value. Ok (with_value name value g)) after h in
    let e : with_value name r.0 g ≡ after = cc in
    subst (IsOwnGiven own) e (value_given_own own g name r.0 past (value_own own packages store kind v r.0 r.1))

attribute_given_own : (own : PackageParts) (packages : List BuildFile) (store : StoreView) (kind : Option AttributeType) (name : List ℕ) (v : Datum) (g after : Given)
    → with_attribute_by own packages store kind name v g ≡ Ok after → IsOwnGiven own g → IsOwnGiven own after
attribute_given_own own packages store None name v g after h past = absurd (cc)
attribute_given_own own packages store (Some kind) name v g after h past = by (is_none v) h
  where
    by : (b : Bool) → cond b (Ok g) (and_then (value_as own packages store kind v) (λ value. Ok (with_value name value g))) ≡ Ok after → IsOwnGiven own after
    by true e = let is : g ≡ after = cc in same_own own g after is past
    by false e = typed_given_own own packages store kind name v g after e past

argument_own : (own : PackageParts) (packages : List BuildFile) (store : StoreView) (class : Class) (g after : Given) (argument : Datum × Datum)
    → with_argument own packages store class g argument ≡ Ok after → IsOwnGiven own g → IsOwnGiven own after
unfolding with_argument with_attribute
argument_own own packages store class g after argument h past = by (bytes_eq (keyword argument.0) (codes "name")) h
  where
    by : (b : Bool) → cond b (with_name own packages argument.1 g) (with_attribute own packages store class (keyword argument.0) argument.1 g) ≡ Ok after → IsOwnGiven own after
    by true e = name_given_own own packages argument.1 g after e past
    by false e = attribute_given_own own packages store (attribute_type class (keyword argument.0)) (keyword argument.0) argument.1 g after e past

pub arguments_own : (own : PackageParts) (packages : List BuildFile) (store : StoreView) (class : Class) (g after : Given) (arguments : List (Datum × Datum))
    → with_arguments own packages store class g arguments ≡ Ok after → IsOwnGiven own g → IsOwnGiven own after
unfolding with_arguments
arguments_own own packages store class g after [] h past = let is : g ≡ after = cc in same_own own g after is past
arguments_own own packages store class g after (x ∷ xs) h past =
    let r = both_ok (with_argument own packages store class g x) (λ more. with_arguments own packages store class more xs) after h in
    arguments_own own packages store class r.0 after xs r.2 (argument_own own packages store class g r.0 x r.1 past)
