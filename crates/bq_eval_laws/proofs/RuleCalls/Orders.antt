-- A call of a rule, and each of its arguments, is refused in its order.
use Rattle.std.proofs.Common.{◌≡◌, refl, ap, ℕ, inl, inr, Bool, true, false, List, [], ◌∷◌, ◌++◌, Option, Some, None, Result, Ok, Err}
use Rattle.std.specs.Prelude.{not, ◌&&◌, is_some}
use Rattle.bq_base.specs.declared.fault.EvalFault.{EvalFault}
use Rattle.bq_base.specs.declared.fault.EvalFault.TheVariants as f
use Rattle.bq_base.proofs.Choices.{by_bool}
use Rattle.bq_label.specs.Label.{LabelParts}
use Rattle.bq_predeclared.specs.declared.attribute_type.AttributeType.{AttributeType}
use Rattle.bq_package_target.specs.Value.{attribute_type}
use Rattle.bq_package_target.specs.declared.value.GivenAttribute.{GivenAttribute}
use Rattle.bq_value.specs.Datum.{Datum}
use Rattle.bq_builtin_machine.specs.Args.{Passed}
use Rattle.bq_builtin_machine.specs.Binding.{Binding, bind}
use Rattle.bq_package_attributes.specs.declared.arguments.Given.{Given}
use Rattle.bq_package_values.specs.declared.label_texts.TextKind.TheVariants as k
use Rattle.bq_package_values.specs.Steps.{and_then}
use Rattle.bq_package_values.specs.Texts.{text_in}
use Rattle.bq_package_values.specs.LabelTexts.{label}
use Rattle.bq_package_values.specs.Values.{value_as}
use Rattle.bq_package_attributes.specs.Arguments.{nothing_given, is_none, with_value, with_label, with_name, with_attribute, keyword, with_argument, with_arguments}
use Rattle.bq_package_attributes.specs.Declarations.{keywords_alone, gives_mandatory, defaults, if_whole, target, declaration}
use Rattle.bq_builtin_machine.specs.Refusals.{when, fault_in, fault_then, first_fault, FailsForFirst}
use Rattle.bq_eval_laws.specs.RuleCalls.CallPlace.{CallPlace, argument_read, target_declared, GivesName, GivesAttribute}
use Rattle.bq_eval_laws.specs.RuleCalls.Orders.{bad_value, giving, naming, missing, declaring}
use Rattle.bq_package_attributes.proofs.DeclarationCases.{with_attribute_by}

-- an answer that is changed, and else its fault
changed_only : {A B : Type 0} (r : Result A EvalFault) (f : A → B) → fault_in (and_then r (λ a. Ok (f a))) ≡ first_fault (fault_in r ∷ [])
changed_only (Ok a) f = refl
changed_only (Err why) f = refl

module _ (x : CallPlace) (g : Given) where
  by_type : (o : Option AttributeType) (name : List ℕ) (v : Datum) → fault_in (with_attribute_by x.own x.packages x.store o name v g) ≡ first_fault (when (not (is_some o)) f.NoAttribute ∷ bad_value x.own x.packages x.store o v ∷ [])
  by_type None name v = refl
  by_type (Some type) name v = elim (by_bool (is_none v)) [
    | inl t ↦ rw t refl
    | inr t ↦ rw t (changed_only (value_as x.own x.packages x.store type v) (λ value. with_value name value g))
  ]

  pub given_in_order : (argument : Datum × Datum) → GivesAttribute argument → FailsForFirst (argument_read x g argument) (giving x argument)
  unfolding with_argument with_attribute
  given_in_order argument h = rw h (by_type (attribute_type x.class (keyword argument.0)) (keyword argument.0) argument.1)

  pub unknown_attribute : (argument : Datum × Datum) → GivesAttribute argument → attribute_type x.class (keyword argument.0) ≡ None → argument_read x g argument ≡ Err f.NoAttribute
  unfolding with_argument with_attribute
  unknown_attribute argument h none = rw h (ap (λ o. with_attribute_by x.own x.packages x.store o (keyword argument.0) argument.1 g) none)

  by_text : (r : Result (List ℕ) EvalFault)
      → fault_in (and_then r (λ text. and_then (label x.own x.packages k.Name text) (λ l. Ok (with_label text l g)))) ≡ first_fault (fault_in r ∷ fault_then r (λ text. fault_in (label x.own x.packages k.Name text)) ∷ [])
  by_text (Err why) = refl
  by_text (Ok text) = changed_only (label x.own x.packages k.Name text) (λ l. with_label text l g)

  pub named_in_order : (argument : Datum × Datum) → GivesName argument → FailsForFirst (argument_read x g argument) (naming x argument.1)
  unfolding with_argument with_name
  named_in_order argument h = elim (by_bool (is_none argument.1)) [
    | inl t ↦ rw (h, t) refl
    | inr t ↦ rw (h, t) (by_text (text_in f.AttributeType argument.1))
  ]

module _ (x : CallPlace) (rule : List ℕ) (line : ℕ) where
  whole : (given : Bool) (o : Option LabelParts) (gs : List GivenAttribute) → fault_in (if_whole given rule x.class line o gs) ≡ first_fault (when (not (is_some o && given)) f.MissingAttribute ∷ [])
  whole true None gs = refl
  whole false None gs = refl
  whole true (Some l) gs = refl
  whole false (Some l) gs = refl

  by_arguments : (keywords : List (Datum × Datum)) (r : Result Given EvalFault)
      → fault_in (and_then r (λ g. if_whole (gives_mandatory x.class keywords) rule x.class line g.name (g.attributes ++ defaults keywords x.class))) ≡ first_fault (fault_in r ∷ fault_then r (missing x.class keywords) ∷ [])
  by_arguments keywords (Ok g) = whole (gives_mandatory x.class keywords) g.name (g.attributes ++ defaults keywords x.class)
  by_arguments keywords (Err why) = refl

  by_form : (r : Binding)
      → fault_in (and_then r (λ b. target x.own x.packages x.store x.class rule line b.keywords))
      ≡ first_fault (fault_in r ∷ fault_then r (λ b. fault_in (with_arguments x.own x.packages x.store x.class nothing_given b.keywords)) ∷ fault_then r (λ b. fault_then (with_arguments x.own x.packages x.store x.class nothing_given b.keywords) (missing x.class b.keywords)) ∷ [])
  unfolding target
  by_form (Ok b) = by_arguments b.keywords (with_arguments x.own x.packages x.store x.class nothing_given b.keywords)
  by_form (Err why) = refl

  pub declared_in_order : (passed : Passed) → FailsForFirst (target_declared x rule line passed) (declaring x passed)
  unfolding declaration
  declared_in_order passed = by_form (bind keywords_alone passed)
