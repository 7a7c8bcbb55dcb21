-- In which order a call of a rule, and each of its arguments, is refused (ours: the order).
use Rattle.std.specs.Prelude.{ℕ, not, ◌&&◌, cond, List, [], ◌∷◌, Option, Some, None, is_some}
use Rattle.bq_base.specs.declared.fault.EvalFault.TheVariants as f
use Rattle.bq_label.specs.declared.packages.BuildFile.{BuildFile}
use Rattle.bq_label.specs.Label.{PackageParts}
use Rattle.bq_predeclared.specs.declared.attribute_type.AttributeType.{AttributeType}
use Rattle.bq_value_datum.specs.Class.{Class}
use Rattle.bq_package_target.specs.Value.{attribute_type}
use Rattle.bq_value.specs.Datum.{Datum}
use Rattle.bq_value.specs.Cells.{StoreView}
use Rattle.bq_builtin_machine.specs.Args.{Passed}
use Rattle.bq_builtin_machine.specs.Binding.{bind}
use Rattle.bq_package_attributes.specs.declared.arguments.Given.{Given}
use Rattle.bq_package_values.specs.declared.label_texts.TextKind.TheVariants as k
use Rattle.bq_package_values.specs.Texts.{text_in}
use Rattle.bq_package_values.specs.LabelTexts.{label}
use Rattle.bq_package_values.specs.Values.{value_as}
use Rattle.bq_package_attributes.specs.Arguments.{nothing_given, is_none, keyword, with_arguments}
use Rattle.bq_package_attributes.specs.Declarations.{keywords_alone, gives_mandatory}
use Rattle.bq_builtin_machine.specs.Refusals.{Check, when, fault_in, fault_then}
use Rattle.bq_eval_laws.specs.RuleCalls.CallPlace.{CallPlace}

-- F71: the rule has no attribute of that name
abbrev pub no_attribute : Class → List ℕ → Check
no_attribute class name = when (not (is_some (attribute_type class name))) f.NoAttribute

-- F73, F75, F78, F37: the value is none of the attribute; `None` is taken for no value
abbrev pub bad_value : PackageParts → List BuildFile → StoreView → Option AttributeType → Datum → Check
bad_value own packages store None v = None
bad_value own packages store (Some type) v = cond (is_none v) None (fault_in (value_as own packages store type v))

-- an argument of a call of a rule, but for its name
abbrev pub giving : CallPlace → Datum × Datum → List Check
giving x argument =
    no_attribute x.class (keyword argument.0) ∷ bad_value x.own x.packages x.store (attribute_type x.class (keyword argument.0)) argument.1 ∷ []

-- the name: a string (F73) that names a target of the package (F75, F37)
abbrev pub naming : CallPlace → Datum → List Check
naming x v = cond (is_none v) [] (fault_in (text_in f.AttributeType v) ∷ fault_then (text_in f.AttributeType v) (λ text. fault_in (label x.own x.packages k.Name text)) ∷ [])

-- F72: neither the name nor an attribute that has to be given is missing
abbrev pub missing : Class → List (Datum × Datum) → Given → Check
missing class keywords g = when (not (is_some g.name && gives_mandatory class keywords)) f.MissingAttribute

-- a call of a rule: the form of its arguments (F52), what is wrong with one of them, and what is missing
abbrev pub declaring : CallPlace → Passed → List Check
declaring x passed =
    fault_in (bind keywords_alone passed)
    ∷ fault_then (bind keywords_alone passed) (λ b. fault_in (with_arguments x.own x.packages x.store x.class nothing_given b.keywords))
    ∷ fault_then (bind keywords_alone passed) (λ b. fault_then (with_arguments x.own x.packages x.store x.class nothing_given b.keywords) (missing x.class b.keywords))
    ∷ []
