-- A look-up of `attr.NAME` finds the function of that name, and nothing else.
use Rattle.std.proofs.Common.{◌≡◌, ◌∙◌, ℕ, Bool, true, false, List, Option, Some, None, refl, sym, ap}
use Rattle.std.specs.Prelude.{if◌then◌else◌}
use Rattle.bq_predeclared.specs.AttributeType.{type_named, has_function, type_named-type_name}
use Rattle.bq_predeclared.specs.declared.attribute_type.AttributeType.{AttributeType}
use Rattle.bq_predeclared.proofs.TypeFound.{no_other_named}
use Rattle.bq_predeclared.specs.declared.rule_function.RuleFunction.{RuleFunction}
use Rattle.bq_predeclared.specs.declared.rule_function.RuleFunction.TheVariants as f
use Rattle.bq_predeclared.specs.RuleFunctions.{attr_named, rule_function_name}
use Rattle.bq_predeclared.specs.PredeclaredLaws.{EachAttrFunctionIsFound, NoOtherAttrFunctionIsFound}
use Rattle.bq_predeclared.proofs.Cases.{attr_by}

-- what is found has the name, and makes attributes
abbrev Fits : List ℕ → RuleFunction → Type 0
Fits name x = (rule_function_name x ≡ name) × ((kind : AttributeType) × (x ≡ f.Attr kind) × (has_function kind ≡ true))

by_function : (b : Bool) (name : List ℕ) (kind : AttributeType) (x : RuleFunction) → type_named name ≡ Some kind → has_function kind ≡ b → (if b then Some (f.Attr kind) else None) ≡ Some x → Fits name x
by_function true name kind x e own h =
    let same : f.Attr kind ≡ x = cc in
    (ap rule_function_name (sym same) ∙ no_other_named kind name e, (kind, sym same, own))
by_function false name kind x e own h = absurd (cc)

by_type : (o : Option AttributeType) (name : List ℕ) (x : RuleFunction) → type_named name ≡ o → attr_by o ≡ Some x → Fits name x
by_type None name x e h = absurd (cc)
by_type (Some kind) name x e h = by_function (has_function kind) name kind x e refl h

pub no_other_attr_function : NoOtherAttrFunctionIsFound
unfolding attr_named
no_other_attr_function x name h = by_type (type_named name) name x refl h

pub each_attr_function : EachAttrFunctionIsFound
unfolding attr_named
each_attr_function kind own = ap attr_by (type_named-type_name kind) ∙ ap (λ b. if b then Some (f.Attr kind) else None) own
