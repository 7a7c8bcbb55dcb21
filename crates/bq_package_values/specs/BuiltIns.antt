-- The values of predeclared names (Starlark specification, "Built-in constants and functions"; Bazel, Build Encyclopedia, "Functions").
use Rattle.std.specs.Prelude.{ℕ, List, true, false, Option, Some, None, slice_get}
use Rattle.bq_predeclared.specs.declared.host_function.HostFunction.TheVariants as h
use Rattle.bq_predeclared.specs.declared.predeclared.Predeclared.{Predeclared}
use Rattle.bq_predeclared.specs.declared.predeclared.Predeclared.TheVariants as p
use Rattle.bq_predeclared.specs.Predeclared.{name_of}
use Rattle.bq_resolve_scope.specs.Names.{Name}
use Rattle.bq_value.specs.Datum.{Datum, none, boolean, predeclared, schema_rule, built_in, rule_function}

-- the value of a predeclared name, where the schema's rules have these names; no program has a rule that the schema hasn't, nor a
-- function that has no name
unfoldable pub predeclared_value : List Name → Predeclared → Datum
predeclared_value rules p.None = none
predeclared_value rules p.True = boolean true
predeclared_value rules p.False = boolean false
predeclared_value rules (p.Host (h.Rule place)) = elim (slice_get rules place) [ None ↦ none | Some name ↦ built_in (schema_rule place name) ]
predeclared_value rules (p.RuleFunction f) = rule_function f
predeclared_value rules x = elim (name_of x) [ None ↦ none | Some name ↦ built_in (predeclared x) ]
