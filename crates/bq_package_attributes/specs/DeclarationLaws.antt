-- Words of the laws.
use Rattle.std.specs.Prelude.{◌≡◌, ℕ, Bool, true, false, List, ◌∷◌, ◌++◌, map, Some, Ok, Err, bytes_eq}
use Rattle.std.specs.List.{list_any, Contains}
use Rattle.bq_base.specs.declared.fault.EvalFault.{EvalFault}
use Rattle.bq_label.specs.declared.packages.BuildFile.{BuildFile}
use Rattle.bq_label.specs.Label.{PackageParts}
use Rattle.bq_value_datum.specs.declared.attribute.Attribute.{Attribute}
use Rattle.bq_value_datum.specs.Class.{Class}
use Rattle.bq_value_datum.specs.AttributeValue.{names_outputs}
use Rattle.bq_package_target.specs.declared.target.Target.{Target}
use Rattle.bq_value_datum.specs.declared.attribute_value.AttributeValue.{AttributeValue}
use Rattle.bq_package_target.specs.declared.value.GivenAttribute.{GivenAttribute}
use Rattle.bq_package_target.specs.Package.{IsOwnCall}
use Rattle.bq_value.specs.Datum.{Datum, string}
use Rattle.bq_value.specs.Cells.{StoreView}
use Rattle.bq_builtin_machine.specs.Args.{Passed}
use Rattle.bq_builtin_machine.specs.Binding.{BoundView, bind}
use Rattle.bq_package_attributes.specs.declared.arguments.Given.{Given}
use Rattle.bq_package_attributes.specs.Arguments.{with_argument, with_arguments}
use Rattle.bq_package_attributes.specs.Declarations.{keywords_alone, gives, declaration}

-- the target that a call declares, and the files that its rule makes, are of the package of the BUILD file
abbrev pub CallsDeclareOwnTargets : Type 0
CallsDeclareOwnTargets =
    (own : PackageParts) (packages : List BuildFile) (store : StoreView) (class : Class) (rule : List ℕ) (line : ℕ) (passed : Passed) (t : Target)
    → declaration own packages store class rule line passed ≡ Ok t → IsOwnCall own t

-- the keyword arguments of a call are its named arguments, in the order in which they are written
abbrev pub KeywordsKeepTheirOrder : Type 0
KeywordsKeepTheirOrder = (p : Passed) (b : BoundView) → bind keywords_alone p ≡ Ok b → b.keywords ≡ map (λ a. (string a.0, a.1)) p.named

-- the arguments before this one are read, and it is refused
pub record IsFirstFaulty (own : PackageParts) (packages : List BuildFile) (store : StoreView) (class : Class) (g : Given) (arguments : List (Datum × Datum)) (why : EvalFault) : Type 0 where
  pub before : List (Datum × Datum)
  pub argument : Datum × Datum
  pub after : List (Datum × Datum)
  pub given : Given
  pub cut : arguments ≡ before ++ argument ∷ after
  pub read : with_arguments own packages store class g before ≡ Ok given
  pub bad : with_argument own packages store class given argument ≡ Err why

-- arguments are refused for what the first faulty one of them is refused for
abbrev pub TheFirstFaultyArgumentDecides : Type 0
TheFirstFaultyArgumentDecides =
    (own : PackageParts) (packages : List BuildFile) (store : StoreView) (class : Class) (g : Given) (arguments : List (Datum × Datum)) (why : EvalFault)
    → with_arguments own packages store class g arguments ≡ Err why → IsFirstFaulty own packages store class g arguments why

-- the target has an attribute of this name
abbrev pub has_attribute : List GivenAttribute → List ℕ → Bool
has_attribute given name = list_any (λ a. bytes_eq name a.name) given

-- a target has its name, and each attribute that has to be given
abbrev pub MandatoryAttributesAreGiven : Type 0
MandatoryAttributesAreGiven =
    (own : PackageParts) (packages : List BuildFile) (store : StoreView) (class : Class) (rule : List ℕ) (line : ℕ) (p : Passed) (t : Target)
    → declaration own packages store class rule line p ≡ Ok t
    → (e : List ℕ × Attribute) → Contains class e → e.1.is_mandatory ≡ true → has_attribute t.attributes e.0 ≡ true

-- an attribute that the keyword arguments of a call don't give has its default, unless it names outputs
abbrev pub DefaultsAreGiven : Type 0
DefaultsAreGiven =
    (own : PackageParts) (packages : List BuildFile) (store : StoreView) (class : Class) (rule : List ℕ) (line : ℕ) (p : Passed) (b : BoundView) (t : Target)
    → declaration own packages store class rule line p ≡ Ok t → bind keywords_alone p ≡ Ok b
    → (e : List ℕ × Attribute) → Contains class e → gives b.keywords e.0 ≡ false → (v : AttributeValue) → e.1.default ≡ Some v → names_outputs v ≡ false
    → Contains t.attributes (record { name = e.0; value = v })
