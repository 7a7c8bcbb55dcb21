-- The target that a call declares is of its package, and so are the files that the rule makes.
use Rattle.std.proofs.Common.{◌≡◌, ◌∙◌, ℕ, Bool, true, false, List, [], ◌∷◌, ◌++◌, Option, Some, None, Ok, Err, if◌then◌else◌, refl, ap, subst, append-nil}
use Rattle.std.specs.List.{list_all}
use Rattle.std.proofs.lemmas.List.Folds.{list_all-map}
use Rattle.std.proofs.lemmas.Grind.{flat_map-append}
use Rattle.bq_base.specs.declared.fault.EvalFault.TheVariants as f
use Rattle.bq_label.specs.declared.packages.BuildFile.{BuildFile}
use Rattle.bq_label.specs.Label.{PackageParts, LabelParts}
use Rattle.bq_value_datum.specs.Class.{Class}
use Rattle.bq_value_datum.specs.declared.attribute_value.AttributeValue.{AttributeValue}
use Rattle.bq_value.specs.Datum.{Datum}
use Rattle.bq_value.specs.Cells.{StoreView}
use Rattle.bq_builtin_machine.specs.Args.{Passed}
use Rattle.bq_builtin_machine.specs.Binding.{bind}
use Rattle.bq_package_target.specs.declared.target.Target.{Target}
use Rattle.bq_package_target.specs.declared.value.GivenAttribute.{GivenAttribute}
use Rattle.bq_value_datum.specs.AttributeValue.{names_outputs, no_outputs_of, outputs_of}
use Rattle.bq_package_target.specs.Value.{outputs_in}
use Rattle.bq_package_target.specs.Target.{is_of, declares, generated}
use Rattle.bq_package_target.specs.Package.{IsOwnCall}
use Rattle.bq_package_attributes.specs.Arguments.{nothing_given, with_arguments}
use Rattle.bq_package_attributes.specs.Declarations.{keywords_alone, gives, gives_mandatory, default_for, defaults, if_whole, target_of, target, declaration}
use Rattle.bq_package_values.proofs.Steps.{both_ok, then_ok}
use Rattle.bq_package_attributes.proofs.Own.{IsOwnName, arguments_own}
use Rattle.bq_package_attributes.proofs.DeclarationCases.{default_by}

target_own : (own : PackageParts) (target : Target) → is_of own target.label ≡ true → list_all (is_of own) (outputs_in target.attributes) ≡ true → IsOwnCall own target
unfolding declares
target_own own target mine outputs = rw (mine, list_all-map (λ (d : Target). is_of own d.label) (generated target) (outputs_in target.attributes)) outputs

whole_own : (own : PackageParts) (whole : Bool) (rule : List ℕ) (class : Class) (line : ℕ) (name : Option LabelParts) (gs : List GivenAttribute) (target : Target) → IsOwnName own name → list_all (is_of own) (outputs_in gs) ≡ true
    → if_whole whole rule class line name gs ≡ Ok target → IsOwnCall own target
whole_own own whole rule class line None gs target mine past h = absurd (cc)
whole_own own whole rule class line (Some l) gs target mine past h =
    subst (IsOwnCall own) (then_ok whole (target_of rule class line l gs) target f.MissingAttribute h) (target_own own (target_of rule class line l gs) mine past)

-- ---- defaults name no outputs

no_outputs_in : (names : Bool) (name : List ℕ) (v : AttributeValue) → names_outputs v ≡ names → outputs_in (if names then [] else record { name = name; value = v } ∷ []) ≡ []
no_outputs_in true name v e = refl
no_outputs_in false name v e = append-nil (outputs_of v) ∙ no_outputs_of v e

no_outputs_by : (given : Bool) (name : List ℕ) (d : Option AttributeValue) → outputs_in (default_by given name d) ≡ []
no_outputs_by true name d = refl
no_outputs_by false name None = refl
no_outputs_by false name (Some v) = no_outputs_in (names_outputs v) name v refl

no_outputs : (keywords : List (Datum × Datum)) (class : Class) → outputs_in (defaults keywords class) ≡ []
unfolding default_for
no_outputs keywords [] = refl
no_outputs keywords (e ∷ es) =
    flat_map-append (λ (x : GivenAttribute). outputs_of x.value) (default_for keywords e) (defaults keywords es)
    ∙ (ap (λ (ls : List LabelParts). ls ++ outputs_in (defaults keywords es)) (no_outputs_by (gives keywords e.0) e.0 e.1.default) ∙ no_outputs keywords es)

with_defaults_own : (own : PackageParts) (gs : List GivenAttribute) (keywords : List (Datum × Datum)) (class : Class) → list_all (is_of own) (outputs_in gs) ≡ true
    → list_all (is_of own) (outputs_in (gs ++ defaults keywords class)) ≡ true
with_defaults_own own gs keywords class past =
    rw (flat_map-append (λ (x : GivenAttribute). outputs_of x.value) gs (defaults keywords class), no_outputs keywords class, append-nil (outputs_in gs)) past

pub declared_own : (own : PackageParts) (packages : List BuildFile) (store : StoreView) (class : Class) (rule : List ℕ) (line : ℕ) (passed : Passed) (t : Target)
    → declaration own packages store class rule line passed ≡ Ok t → IsOwnCall own t
unfolding declaration target
declared_own own packages store class rule line passed t h =
    let r = both_ok (bind keywords_alone passed) (λ b. target own packages store class rule line b.keywords) t h in
    let q = both_ok (with_arguments own packages store class nothing_given r.0.keywords) (λ g. if_whole (gives_mandatory class r.0.keywords) rule class line g.name (g.attributes ++ defaults r.0.keywords class)) t r.2 in
    let mine = arguments_own own packages store class nothing_given q.0 r.0.keywords q.1 (record { name = tt; outputs = refl }) in
    whole_own own (gives_mandatory class r.0.keywords) rule class line q.0.name (q.0.attributes ++ defaults r.0.keywords class) t mine.name (with_defaults_own own q.0.attributes r.0.keywords class mine.outputs) q.2

-- without an attribute that has to be given there is no target, whether or not the name is given
pub lacks : (rule : List ℕ) (class : Class) (line : ℕ) (name : Option LabelParts) (gs : List GivenAttribute) → if_whole false rule class line name gs ≡ Err f.MissingAttribute
lacks rule class line None gs = refl
lacks rule class line (Some l) gs = refl
