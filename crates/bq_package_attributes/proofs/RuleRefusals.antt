-- What rules are refused for, in order.
use Rattle.std.proofs.Common.{◌≡◌, refl, Bool, true, false, [], ◌∷◌, Result, Ok, Err}
use Rattle.std.specs.Prelude.{◌||◌, not, if◌then◌else◌}
use Rattle.bq_base.specs.declared.fault.EvalFault.{EvalFault}
use Rattle.bq_base.specs.declared.fault.EvalFault.TheVariants.{BadValue}
use Rattle.bq_builtin_machine.specs.Refusals.{when, first_fault, fault_in, fault_then}
use Rattle.bq_value_datum.specs.Class.{Class}
use Rattle.bq_value.specs.Cells.{StoreView}
use Rattle.bq_builtin_machine.specs.Binding.{Binding, bind}
use Rattle.bq_package_values.specs.Parameters.{argument}
use Rattle.bq_package_attributes.specs.Keywords.{rule_parameters, documented}
use Rattle.bq_package_attributes.specs.RuleLaws.{RulesAreRefusedInOrder, NoRuleIsDeclaredInABuildFile}
use Rattle.bq_package_attributes.specs.Rule.{implemented, attributes_in, are_named, class_of, class}
use Rattle.bq_package_values.specs.Steps.{and_then}
use Rattle.bq_package_attributes.proofs.RuleCases.{if_declared}

by_names : (in_build named : Bool) (x : Class) → fault_in (if in_build || not named then Err BadValue else Ok x) ≡ first_fault (when (not named) BadValue ∷ when in_build BadValue ∷ [])
by_names true true x = refl
by_names true false x = refl
by_names false true x = refl
by_names false false x = refl

by_kinds : (in_build : Bool) (implemented documented : Result (Unit {0}) EvalFault) (attributes : Result Class EvalFault)
    → fault_in (and_then implemented (λ _. and_then attributes (λ x. and_then documented (λ _. if_declared in_build x))))
    ≡ first_fault (fault_in implemented ∷ fault_in attributes ∷ fault_in documented ∷ fault_then attributes (λ x. when (not (are_named x)) BadValue) ∷ when in_build BadValue ∷ [])
by_kinds in_build (Err why) documented attributes = refl
by_kinds in_build (Ok i) documented (Err why) = refl
by_kinds in_build (Ok i) (Err why) (Ok x) = refl
by_kinds in_build (Ok i) (Ok d) (Ok x) = by_names in_build (are_named x) x

by_binding : (in_build : Bool) (store : StoreView) (r : Binding)
    → fault_in (and_then r (λ b. class_of in_build store b.values))
    ≡ first_fault (fault_in r ∷ fault_then r (λ b. fault_in (implemented (argument b.values 0))) ∷ fault_then r (λ b. fault_in (attributes_in store (argument b.values 1)))
    ∷ fault_then r (λ b. fault_in (documented (argument b.values 2))) ∷ fault_then r (λ b. fault_then (attributes_in store (argument b.values 1)) (λ x. when (not (are_named x)) BadValue)) ∷ when in_build BadValue ∷ [])
unfolding class_of
by_binding in_build store (Err why) = refl
by_binding in_build store (Ok b) = by_kinds in_build (implemented (argument b.values 0)) (documented (argument b.values 2)) (attributes_in store (argument b.values 1))

pub refused_in_order : RulesAreRefusedInOrder
unfolding class
refused_in_order in_build store args = by_binding in_build store (bind rule_parameters args)

-- ---- while a BUILD file is evaluated

none_declared : (implemented documented : Result (Unit {0}) EvalFault) (attributes : Result Class EvalFault) (y : Class)
    → and_then implemented (λ _. and_then attributes (λ x. and_then documented (λ _. if_declared true x))) ≡ Ok y → ⊥
none_declared (Err why) documented attributes y h = cc
none_declared (Ok i) documented (Err why) y h = cc
none_declared (Ok i) (Err why) (Ok x) y h = cc
none_declared (Ok i) (Ok d) (Ok x) y h = cc

none_bound : (store : StoreView) (r : Binding) (y : Class) → and_then r (λ b. class_of true store b.values) ≡ Ok y → ⊥
unfolding class_of
none_bound store (Err why) y h = cc
none_bound store (Ok b) y h = none_declared (implemented (argument b.values 0)) (documented (argument b.values 2)) (attributes_in store (argument b.values 1)) y h

pub none_in_build : NoRuleIsDeclaredInABuildFile
unfolding class
none_in_build store args x h = none_bound store (bind rule_parameters args) x h
