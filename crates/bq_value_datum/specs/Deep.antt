-- That a value within a value is smaller.
use Rattle.std.specs.Prelude.{◌≤◌}
use Rattle.std.proofs.Common.{arith}
use Rattle.bq_value_datum.specs.Datum.{weight}
use Rattle.bq_value_datum.specs.View.{datum_of, most_le-weights}
use Rattle.bq_value_datum.specs.declared.value.Node.{Node}
use Rattle.bq_value_datum.specs.declared.value.Node.TheVariants as node
use Rattle.bq_value_datum.specs.declared.value.Value.TheDeep.{deep-Node}

-- each value right within a node weighs less than the value that the node stands for
pub deep_le-weight : (n : Node) → deep-Node n ≤ weight (datum_of n)
deep_le-weight node.NoneValue = omega arith
deep_le-weight (node.Bool b) = omega arith
deep_le-weight (node.Int n) = omega arith
deep_le-weight (node.Text s) = omega arith
deep_le-weight (node.Tuple xs) = omega (arith, most_le-weights xs.value.items)
deep_le-weight (node.Range r) = omega arith
deep_le-weight (node.Cell c) = omega arith
deep_le-weight (node.Function f) = omega (arith, most_le-weights f.value.defaults.items)
deep_le-weight (node.BuiltIn f) = omega arith
deep_le-weight (node.SchemaRule place name) = omega arith
deep_le-weight node.Rule = omega arith
deep_le-weight (node.Attr kind) = omega arith
deep_le-weight (node.Attribute a) = omega arith
