-- The functions that declare rules (Bazel, "Rules"; "attr").
use Rattle.std.specs.Prelude.{ℕ, List, Option, Some, None, codes, if◌then◌else◌}
use Rattle.bq_predeclared.specs.AttributeType.{type_name, type_named, has_function}
use Rattle.bq_predeclared.specs.declared.rule_function.RuleFunction.{RuleFunction}
use Rattle.bq_predeclared.specs.declared.rule_function.RuleFunction.TheVariants as f

-- its name: `rule`, or the one after `attr.`
abbrev pub rule_function_name : RuleFunction → List ℕ
rule_function_name f.Rule = codes "rule"
rule_function_name (f.Attr kind) = type_name kind

-- the function `attr.NAME` of this name
unfoldable pub attr_named : List ℕ → Option RuleFunction
attr_named name = elim (type_named name) [ None ↦ None | Some kind ↦ if has_function kind then Some (f.Attr kind) else None ]
