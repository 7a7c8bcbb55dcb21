-- A rule that a .bzl file declares and a rule of the schema declare alike; what a host says beside.
use Rattle.std.proofs.Common.{◌≡◌, ◌∙◌, inl, inr, ℕ, List, [], Option, Some, Ok, refl, ap, subst, slice_get}
use Rattle.std.specs.List.{AllZip}
use Rattle.bq_label.specs.Label.{PackageParts, LabelParts, ReadsAs}
use Rattle.bq_value_datum.specs.Class.{Class}
use Rattle.bq_value_datum.specs.declared.attribute_value.AttributeValue.TheVariants as a
use Rattle.bq_builtin_machine.specs.Args.{Passed}
use Rattle.bq_builtin_machine.specs.State.{State}
use Rattle.bq_package_target.specs.Calls.{declared}
use Rattle.bq_package_values.specs.declared.label_texts.TextKind.TheVariants as k
use Rattle.bq_package_values.specs.declared.written.Written.TheVariants as w
use Rattle.bq_package_values.specs.Steps.{in_turn}
use Rattle.bq_package_values.specs.LabelTexts.{read, label, labels}
use Rattle.bq_package_values.specs.Values.{typed}
use Rattle.bq_package_values.proofs.Own.{label_read, labels_read}
use Rattle.bq_package_values.proofs.Standing.{stands}
use Rattle.bq_package_values.proofs.Steps.{both_ok}
use Rattle.bq_package_values.proofs.Turns.{turned, zip_weaker}
use Rattle.bq_predeclared.specs.declared.host_function.HostFunction.TheVariants as b
use Rattle.bq_package.specs.Rules.{target_by, rule_target}
use Rattle.bq_package.specs.Calls.{HeldPackage, Declaring, outside, declaring, own_of, packages_of, declares, call_in, call_of, rule_by, rule_call, default_value}
use Rattle.bq_package.specs.Laws.{RulesDeclareAlike, InBuildIsSaid, DefaultsAreReadInThePackage}

made : (d : Declaring) (number : ℕ) (rule : List ℕ) (class : Class) (passed : Passed) (s : State) → slice_get d.place.rules.names number ≡ Some rule → slice_get d.place.rules.classes number ≡ Some class
    → call_in d s (b.Rule number) passed ≡ rule_by s (declaring d) rule class passed
unfolding call_in rule_target
made d number rule class passed s named classed =
    ap (λ (o : Option (List ℕ)). declares s d (target_by d.place s.store s.line o (slice_get d.place.rules.classes number) passed) (declared d.package)) named
    ∙ ap (λ (o : Option Class). declares s d (target_by d.place s.store s.line (Some rule) o passed) (declared d.package)) classed

pub rules_declare_alike : RulesDeclareAlike
unfolding call_of rule_call
rules_declare_alike d number rule class passed s named classed = made d number rule class passed s named classed

pub in_build_is_said : InBuildIsSaid
in_build_is_said (outside own packages) = (λ e. absurd (cc), λ p. absurd (let no : outside own packages ≡ declaring p.0 = p.1 in cc))
in_build_is_said (declaring d) = (λ e. (d, refl), λ p. refl)

-- ---- defaults

default_reads : (held : HeldPackage) (text : List ℕ) (l : LabelParts) → default_value held (w.Label text) ≡ Ok (a.Label l) → ReadsAs (own_of held) text l
unfolding default_value typed
default_reads held text l h =
    let r = both_ok (label (own_of held) (packages_of held) k.Label text) (λ m. Ok (a.Label m)) (a.Label l) h in
    let same : r.0 ≡ l = cc (r.2) in
    stands (own_of held) k.Label text l (label_read (own_of held) (packages_of held) k.Label text l (r.1 ∙ ap Ok same))

all_stand : (own : PackageParts) (texts : List (List ℕ)) (ls : List LabelParts) → in_turn (read own k.Label) [] texts ≡ Ok ls → AllZip (ReadsAs own) texts ls
all_stand own texts ls h = elim (turned (read own k.Label) [] texts) [
  | inl x ↦ let same : x.0 ≡ ls = cc (x.2, h) in subst (λ (ms : List LabelParts). AllZip (ReadsAs own) texts ms) same (zip_weaker (λ s l. read own k.Label s ≡ Ok l) (ReadsAs own) (stands own k.Label) texts x.0 x.1)
  | inr x ↦ let no : ⊥ = cc (x.2, h) in absurd no
]

defaults_read : (held : HeldPackage) (texts : List (List ℕ)) (ls : List LabelParts) → default_value held (w.LabelList texts) ≡ Ok (a.LabelList ls) → AllZip (ReadsAs (own_of held)) texts ls
unfolding default_value typed
defaults_read held texts ls h =
    let r = both_ok (labels (own_of held) (packages_of held) k.Label texts) (λ ms. Ok (a.LabelList ms)) (a.LabelList ls) h in
    let same : r.0 ≡ ls = cc (r.2) in
    all_stand (own_of held) texts ls (labels_read (own_of held) (packages_of held) k.Label texts ls (r.1 ∙ ap Ok same))

pub defaults_are_read_in_the_package : DefaultsAreReadInThePackage
defaults_are_read_in_the_package = record { label = default_reads; labels = defaults_read }
