-- A token with its spelling, which is what the grammar reads.
use Rattle.std.specs.Prelude.{ℕ, ◌-◌, Bool, List, [], ◌∷◌, length, map, take, slice_range}
use denote.Enum.Bare.{sameb}
use Rattle.bq_query_lex.specs.contracts.token.QueryTokenKind.{the_type}
use Rattle.bq_query_lex.specs.declared.token.QueryToken.{QueryToken}
use Rattle.bq_query_lex.specs.declared.token.QueryTokenKind.{QueryTokenKind}

-- a token with the bytes that it is written with
pub record Lexeme : Type 0 where
  pub kind : QueryTokenKind
  pub spelling : List ℕ

-- the tokens of a text, with their spellings
abbrev pub lexemes : List ℕ → List QueryToken → List Lexeme
lexemes text ts = map (λ t. record { kind = t.kind; spelling = slice_range text t.start t.end }) ts

-- the two kinds of tokens are equal
unfoldable pub same_kind : QueryTokenKind → QueryTokenKind → Bool
same_kind = sameb the_type

-- what is between the quotes
abbrev pub unquoted : List ℕ → List ℕ
unquoted [] = []
unquoted (q ∷ bs) = take (length bs - 1) bs
