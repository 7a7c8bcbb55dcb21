-- Comparisons of two values (Starlark, "Comparisons", "Membership tests"), and the steps that are left.
use Rattle.std.specs.Prelude.{ℕ, Bool, not, Ok, Err}
use Rattle.std.specs.declared.cmp.Ordering.{Ordering}
use Rattle.std.specs.Ordering.{is_lt, is_le, is_gt, is_ge}
use Rattle.bq_parse_grammar.specs.declared.tree.Comparison.{Comparison}
use Rattle.bq_parse_grammar.specs.declared.tree.Comparison.TheVariants as comparison
use Rattle.bq_value.specs.Datum.{Datum}
use Rattle.bq_value.specs.Cells.{StoreView}
use Rattle.bq_value.specs.Looked.{Looked}
use Rattle.bq_builtin_machine.specs.Machine.{looked_equal, looked_order}
use Rattle.bq_builtin_operators.specs.Membership.{contained}

-- the answer turned
abbrev pub negated : Looked Bool → Looked Bool
negated (Ok (so, n)) = Ok (not so, n)
negated (Err kind) = Err kind

-- an answer by how the values are ordered
abbrev pub by_order : (Ordering → Bool) → Looked Ordering → Looked Bool
by_order test (Ok (ordering, n)) = Ok (test ordering, n)
by_order test (Err kind) = Err kind

-- what each comparison says of two values
unfoldable pub compared : Comparison → StoreView → ℕ → Datum → Datum → Looked Bool
compared comparison.Equal s n a b = looked_equal s n a b
compared comparison.NotEqual s n a b = negated (looked_equal s n a b)
compared comparison.Less s n a b = by_order is_lt (looked_order s n a b)
compared comparison.Greater s n a b = by_order is_gt (looked_order s n a b)
compared comparison.LessEqual s n a b = by_order is_le (looked_order s n a b)
compared comparison.GreaterEqual s n a b = by_order is_ge (looked_order s n a b)
compared comparison.In s n a b = contained s n a b
compared comparison.NotIn s n a b = negated (contained s n a b)
