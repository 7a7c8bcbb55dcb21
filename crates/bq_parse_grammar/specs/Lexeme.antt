-- A token with its spelling, which is what the grammar reads.
use Rattle.std.specs.Prelude.{ℕ, List, [], ◌∷◌, slice_range}
use Rattle.bq_source.specs.declared.token.Token.{Token}
use Rattle.bq_source.specs.declared.token.TokenKind.{TokenKind}

-- a token with the bytes that it is written with, and its line
pub record Lexeme : Type 0 where
  pub kind : TokenKind
  pub line : ℕ
  pub spelling : List ℕ

-- the tokens of a text, with their spellings
abbrev pub lexemes : List ℕ → List Token → List Lexeme
lexemes text [] = []
lexemes text (t ∷ ts) = record { kind = t.kind; line = t.line; spelling = slice_range text t.start t.end } ∷ lexemes text ts
