-- Parts of definitions, as words that proofs name.
use Rattle.std.specs.Prelude.{ℕ, ◌==◌, if◌then◌else◌, Option, Some, None, List, slice_range}
use Rattle.bq_parse_grammar.specs.declared.tree.Operator.{Operator}
use Rattle.bq_source.specs.declared.token.Token.{Token}
use Rattle.bq_parse_grammar.specs.Lexeme.{Lexeme}

-- the operator, if it binds as tightly as this level
abbrev pub of_level : ℕ → Option (ℕ × Operator) → Option Operator
of_level l o = elim o [ None ↦ None | Some p ↦ if p.0 == l then Some p.1 else None ]

-- a token of a text
abbrev pub lexeme : List ℕ → Token → Lexeme
lexeme text t = record { kind = t.kind; line = t.line; spelling = slice_range text t.start t.end }
