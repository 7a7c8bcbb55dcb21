-- Comparisons of integers.
use Rattle.std.specs.Prelude.{Bool, not, Option, Some, None}
use Rattle.std.specs.declared.cmp.Ordering.{Ordering}
use Rattle.std.specs.Ordering.{is_eq, is_lt, is_le, is_gt, is_ge}
use Rattle.bq_parse_grammar.specs.declared.tree.Comparison.{Comparison}
use Rattle.bq_parse_grammar.specs.declared.tree.Comparison.TheVariants as comparison

-- what each comparison says of two integers, by their order; nothing is in an integer
abbrev pub integers_compared : Comparison → Ordering → Option Bool
integers_compared comparison.Equal order = Some (is_eq order)
integers_compared comparison.NotEqual order = Some (not (is_eq order))
integers_compared comparison.Less order = Some (is_lt order)
integers_compared comparison.Greater order = Some (is_gt order)
integers_compared comparison.LessEqual order = Some (is_le order)
integers_compared comparison.GreaterEqual order = Some (is_ge order)
integers_compared comparison.In order = None
integers_compared comparison.NotIn order = None
