-- The operators, and how tightly they bind ("Grammar reference" and "Operators" of the Starlark specification).
use Rattle.std.specs.Prelude.{ℕ, ◌==◌, if◌then◌else◌, Option, Some, None}
use Rattle.bq_source.specs.declared.token.TokenKind.{TokenKind}
use Rattle.bq_source.specs.declared.token.TokenKind.TheVariants as k
use Rattle.bq_parse_grammar.specs.declared.tree.Operator.{Operator}
use Rattle.bq_parse_grammar.specs.declared.tree.Operator.TheVariants as o
use Rattle.bq_parse_grammar.specs.declared.tree.UnaryOperator.{UnaryOperator}
use Rattle.bq_parse_grammar.specs.declared.tree.UnaryOperator.TheVariants as u
use Rattle.bq_parse_grammar.specs.declared.tree.Comparison.{Comparison}
use Rattle.bq_parse_grammar.specs.declared.tree.Comparison.TheVariants as c

-- the operator between operands that a token is, and its level: 1 binds tightest
abbrev pub binary_operator : TokenKind → Option (ℕ × Operator)
binary_operator k.Star = Some (1, o.Multiply)
binary_operator k.SlashSlash = Some (1, o.FloorDivide)
binary_operator k.Percent = Some (1, o.Modulo)
binary_operator k.Slash = Some (1, o.Divide)
binary_operator k.Plus = Some (2, o.Add)
binary_operator k.Minus = Some (2, o.Subtract)
binary_operator k.LessLess = Some (3, o.ShiftLeft)
binary_operator k.GreaterGreater = Some (3, o.ShiftRight)
binary_operator k.Ampersand = Some (4, o.BitAnd)
binary_operator k.Caret = Some (5, o.BitXor)
binary_operator k.Pipe = Some (6, o.BitOr)
binary_operator k.And = Some (9, o.And)
binary_operator k.Or = Some (10, o.Or)
binary_operator _ = None

-- the operator of this level that a token is
abbrev pub operator_at : ℕ → TokenKind → Option Operator
operator_at l kind = elim (binary_operator kind) [ None ↦ None | Some p ↦ if p.0 == l then Some p.1 else None ]

-- the sign that a token is
abbrev pub sign : TokenKind → Option UnaryOperator
sign k.Plus = Some u.Plus
sign k.Minus = Some u.Minus
sign k.Tilde = Some u.Invert
sign _ = None

-- `not`
abbrev pub negation : TokenKind → Option UnaryOperator
negation k.Not = Some u.Not
negation _ = None

-- the comparison that one token is; `not in` is two
abbrev pub comparison : TokenKind → Option Comparison
comparison k.EqualEqual = Some c.Equal
comparison k.NotEqual = Some c.NotEqual
comparison k.Less = Some c.Less
comparison k.Greater = Some c.Greater
comparison k.LessEqual = Some c.LessEqual
comparison k.GreaterEqual = Some c.GreaterEqual
comparison k.In = Some c.In
comparison _ = None

-- the operator of an augmented assignment
abbrev pub augmented : TokenKind → Option Operator
augmented k.PlusAssign = Some o.Add
augmented k.MinusAssign = Some o.Subtract
augmented k.StarAssign = Some o.Multiply
augmented k.SlashAssign = Some o.Divide
augmented k.SlashSlashAssign = Some o.FloorDivide
augmented k.PercentAssign = Some o.Modulo
augmented k.AmpersandAssign = Some o.BitAnd
augmented k.PipeAssign = Some o.BitOr
augmented k.CaretAssign = Some o.BitXor
augmented k.LessLessAssign = Some o.ShiftLeft
augmented k.GreaterGreaterAssign = Some o.ShiftRight
augmented _ = None
