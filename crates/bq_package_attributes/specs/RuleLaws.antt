-- Words of the laws.
use Rattle.std.specs.Prelude.{◌≡◌, ◌≢◌, Bool, true, not, List, [], ◌∷◌, Ok, map}
use Rattle.bq_base.specs.declared.fault.EvalFault.TheVariants.{BadValue}
use Rattle.bq_builtin_machine.specs.Refusals.{Check, when, fault_in, fault_then, FailsForFirst}
use Rattle.bq_value_datum.specs.Class.{Class}
use Rattle.bq_value.specs.Datum as datum
use Rattle.bq_value.specs.Datum.{Datum}
use Rattle.bq_value.specs.Cells.{StoreView}
use Rattle.bq_builtin_machine.specs.Args.{Passed}
use Rattle.bq_builtin_machine.specs.Binding.{bind}
use Rattle.bq_package_values.specs.Parameters.{argument}
use Rattle.bq_package_attributes.specs.Keywords.{rule_parameters, documented}
use Rattle.bq_package_attributes.specs.Rule.{implemented, attributes_in, entries, are_named, class}

-- the arguments fit (F52); `implementation`, `attrs` and `doc` are of their types (F40); the attributes may have their names, and no
-- BUILD file is evaluated (F57)
abbrev pub rule_checks : Bool → StoreView → Passed → List Check
rule_checks in_build store args =
    let bound = bind rule_parameters args in
    fault_in bound ∷ fault_then bound (λ b. fault_in (implemented (argument b.values 0))) ∷ fault_then bound (λ b. fault_in (attributes_in store (argument b.values 1)))
    ∷ fault_then bound (λ b. fault_in (documented (argument b.values 2)))
    ∷ fault_then bound (λ b. fault_then (attributes_in store (argument b.values 1)) (λ x. when (not (are_named x)) BadValue)) ∷ when in_build BadValue ∷ []

-- a call of `rule` is refused for the first of these checks that finds a fault, and declares a rule where none does
abbrev pub RulesAreRefusedInOrder : Type 0
RulesAreRefusedInOrder = (in_build : Bool) (store : StoreView) (args : Passed) → FailsForFirst (class in_build store args) (rule_checks in_build store args)

-- the pairs of `attrs` are the attributes, each by its name, in their order
abbrev pub ARuleHasTheAttributesOfItsDict : Type 0
ARuleHasTheAttributesOfItsDict = (ps : List (Datum × Datum)) (x : Class) → entries ps ≡ Ok x → ps ≡ map (λ e. (datum.string e.0, datum.attribute e.1)) x

-- while a BUILD file is evaluated no call of `rule` declares one
abbrev pub NoRuleIsDeclaredInABuildFile : Type 0
NoRuleIsDeclaredInABuildFile = (store : StoreView) (args : Passed) (x : Class) → class true store args ≢ Ok x
