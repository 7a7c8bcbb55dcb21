-- The datum that a node stands for.
use Rattle.std.specs.Prelude.{◌+◌, ◌≤◌, List, [], ◌∷◌}
use Rattle.std.proofs.Common.{arith}
use denote.Param.Weighed.{most}
use Rattle.bq_predeclared.specs.declared.rule_function.RuleFunction.TheVariants as rules
use Rattle.bq_value_datum.specs.Datum.{Datum, none, boolean, int, string, tuple, range, cell, function, predeclared, schema_rule, built_in, rule_function, attribute, data_of, weight, weights}
use Rattle.bq_value_datum.specs.declared.value.Node.{Node}
use Rattle.bq_value_datum.specs.declared.value.Node.TheVariants as node

-- the value that a node stands for, as data: nothing of how it is shared
abbrev pub datum_of : Node → Datum
datum_of node.NoneValue = none
datum_of (node.Bool b) = boolean b
datum_of (node.Int n) = int n
datum_of (node.Text s) = string s
datum_of (node.Tuple xs) = tuple (data_of xs.value.items)
datum_of (node.Range r) = range r.start r.stop r.step
datum_of (node.Cell c) = cell c.module c.number
datum_of (node.Function f) = function f.value.module f.value.place f.value.name (data_of f.value.defaults.items)
datum_of (node.BuiltIn f) = built_in (predeclared f)
datum_of (node.SchemaRule place name) = built_in (schema_rule place name)
datum_of node.Rule = rule_function rules.Rule
datum_of (node.Attr kind) = rule_function (rules.Attr kind)
datum_of (node.Attribute a) = attribute a.value

-- each of these values weighs less than all of them in a row
pub most_le-weights : (xs : List Datum) → most (λ x. weight x + 1) xs ≤ weights (data_of xs)
most_le-weights [] = omega arith
most_le-weights (x ∷ xs) = omega (arith, most_le-weights xs)
