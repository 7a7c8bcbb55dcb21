-- Words of the laws.
use Rattle.std.specs.Prelude.{◌≡◌, ℕ, List, true, Some}
use Rattle.bq_predeclared.specs.AttributeType.{type_name, has_function}
use Rattle.bq_predeclared.specs.declared.attribute_type.AttributeType.{AttributeType}
use Rattle.bq_predeclared.specs.declared.predeclared.Predeclared.{Predeclared}
use Rattle.bq_predeclared.specs.declared.rule_function.RuleFunction.{RuleFunction}
use Rattle.bq_predeclared.specs.declared.rule_function.RuleFunction.TheVariants as f
use Rattle.bq_predeclared.specs.Predeclared.{name_of, predeclared_named}
use Rattle.bq_predeclared.specs.RuleFunctions.{attr_named, rule_function_name}

-- a name stands for what has that name
abbrev pub EachNameIsFound : Type 0
EachNameIsFound = (x : Predeclared) (name : List ℕ) → name_of x ≡ Some name → predeclared_named name ≡ Some x

-- and for nothing else
abbrev pub NothingElseIsFound : Type 0
NothingElseIsFound = (x : Predeclared) (name : List ℕ) → predeclared_named name ≡ Some x → name_of x ≡ Some name

-- each function that makes attributes is found by the name of their type as `attr.NAME`
abbrev pub EachAttrFunctionIsFound : Type 0
EachAttrFunctionIsFound = (kind : AttributeType) → has_function kind ≡ true → attr_named (type_name kind) ≡ Some (f.Attr kind)

-- and nothing else
abbrev pub NoOtherAttrFunctionIsFound : Type 0
NoOtherAttrFunctionIsFound =
    (x : RuleFunction) (name : List ℕ) → attr_named name ≡ Some x → (rule_function_name x ≡ name) × ((kind : AttributeType) × (x ≡ f.Attr kind) × (has_function kind ≡ true))
