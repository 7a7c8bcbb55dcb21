-- The texts of values that have no values in them (Starlark, "str", "repr").
use Rattle.std.specs.Prelude.{ℤ, pos, true, false, ℕ, List, cond, codes}
use Rattle.std.specs.Ordering.{int_eq}
use Rattle.std.specs.Fmt.{signed_decimal}
use Rattle.bq_source.specs.StringLiteral.{quoted}
use Rattle.bq_predeclared.specs.RuleFunctions.{rule_function_name}
use Rattle.bq_predeclared.specs.AttributeType.{type_name}
use Rattle.bq_value.specs.Datum.{Datum, none, boolean, int, string, range, function, built_in, built_in_name, rule_function, attribute}
use Rattle.bq_value_text.specs.Page.{PageView, written}

-- a step of 1 is left out
abbrev pub step_written : PageView → ℤ → PageView
step_written page step = cond (int_eq step (pos 1)) page (written (written page (codes ", ")) (signed_decimal step))

-- `range(0, 3)`, `range(0, 6, 2)`
unfoldable pub range_written : PageView → ℤ → ℤ → ℤ → PageView
range_written page start stop step =
    written (step_written (written (written (written (written page (codes "range(")) (signed_decimal start)) (codes ", ")) (signed_decimal stop)) step) (codes ")")

-- `<function NAME>`, `<built-in function NAME>`, `<attr.NAME>`
unfoldable pub named_written : List ℕ → List ℕ → PageView → PageView
named_written before name page = written (written (written page before) name) (codes ">")

-- an integer in decimal digits, a string in quotes; a tuple, a list, a dict and a rule are no leaves
unfoldable pub leaf_written : PageView → Datum → PageView
leaf_written page none = written page (codes "None")
leaf_written page (boolean true) = written page (codes "True")
leaf_written page (boolean false) = written page (codes "False")
leaf_written page (int n) = written page (signed_decimal n)
leaf_written page (string bytes) = written page (quoted bytes)
leaf_written page (range start stop step) = range_written page start stop step
leaf_written page (function home place name defaults) = named_written (codes "<function ") name page
leaf_written page (built_in f) = named_written (codes "<built-in function ") (built_in_name f) page
leaf_written page (rule_function f) = named_written (codes "<built-in function ") (rule_function_name f) page
leaf_written page (attribute a) = named_written (codes "<attr.") (type_name a.kind) page
leaf_written page _ = page
