-- How many brackets and indents are open.
use Rattle.std.specs.Prelude.{ℕ, ◌+◌, ◌-◌, ◌≤◌, nat_le, Bool, ◌&&◌, List, [], ◌∷◌}
use Rattle.bq_source.specs.declared.token.TokenKind.{TokenKind}
use Rattle.bq_source.specs.declared.token.TokenKind.TheVariants as k
use Rattle.bq_parse_grammar.specs.Lexeme.{Lexeme}

-- the most levels that brackets and blocks stand in one another
abbrev pub max_nesting : ℕ
max_nesting = 64

-- after a token, from those before it
abbrev pub open_after : TokenKind → ℕ → ℕ
open_after k.LeftParen n = n + 1
open_after k.LeftBracket n = n + 1
open_after k.LeftBrace n = n + 1
open_after k.Indent n = n + 1
open_after k.RightParen n = n - 1
open_after k.RightBracket n = n - 1
open_after k.RightBrace n = n - 1
open_after k.Outdent n = n - 1
open_after _ n = n

-- nowhere more than the limit
abbrev pub nests : ℕ → List Lexeme → Bool
nests n [] = nat_le n max_nesting
nests n (t ∷ ts) = nat_le n max_nesting && nests (open_after t.kind n) ts

-- nowhere more than the limit
abbrev pub Nests : ℕ → List Lexeme → Type 0
Nests n [] = n ≤ max_nesting
Nests n (t ∷ ts) = (n ≤ max_nesting) × Nests (open_after t.kind n) ts
