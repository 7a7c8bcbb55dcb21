-- Where the top-level statements of a file begin, in words of the tokens before them.
use Rattle.std.specs.Prelude.{ℕ, List, [], ◌∷◌, ◌++◌, ◌+◌, ◌-◌, ◌≡◌, ◌≢◌, ◌⊎◌}
use Rattle.bq_source.specs.declared.token.TokenKind.{TokenKind}
use Rattle.bq_source.specs.declared.token.TokenKind.TheVariants as k
use Rattle.bq_parse_grammar.specs.Lexeme.{Lexeme}

-- the pieces in a row
abbrev pub joined : List (List Lexeme) → List Lexeme
joined [] = []
joined (p ∷ ps) = p ++ joined ps

-- the indents that are open after a token of this kind, and `n` before it; an outdent with none open leaves none
abbrev pub with_indent : TokenKind → ℕ → ℕ
with_indent k.Indent n = n + 1
with_indent k.Outdent n = n - 1
with_indent _ n = n

-- the indents that are open after these tokens, and `n` before them
abbrev pub open_indents : ℕ → List Lexeme → ℕ
open_indents n [] = n
open_indents n (t ∷ ts) = open_indents (with_indent t.kind n) ts

-- a newline or an outdent comes last
pub data EndsLine (before : List Lexeme) : Type 0 where
  ends_line : (ts : List Lexeme) (t : Lexeme) → before ≡ ts ++ t ∷ [] → (t.kind ≡ k.Newline) ⊎ (t.kind ≡ k.Outdent) → EndsLine before

-- A statement begins with the file's first token, whatever it is, and with each that follows a newline or an outdent while no
-- indent is open, but for an indent, `elif` and `else`.
pub data BeginsStatement (before : List Lexeme) (t : Lexeme) : Type 0 where
  first : before ≡ [] → BeginsStatement before t
  at_margin : EndsLine before → open_indents 0 before ≡ 0 → t.kind ≢ k.Indent → t.kind ≢ k.Elif → t.kind ≢ k.Else → BeginsStatement before t

-- with none of these tokens a statement begins
abbrev pub NoneBegins : List Lexeme → List Lexeme → Type 0
NoneBegins before [] = Unit {0}
NoneBegins before (t ∷ ts) = (BeginsStatement before t → ⊥) × NoneBegins (before ++ t ∷ []) ts

-- each piece has a first token, with which a statement begins, and with no other of its tokens does one
abbrev pub AreStatements : List Lexeme → List (List Lexeme) → Type 0
AreStatements before [] = Unit {0}
AreStatements before ([] ∷ ps) = ⊥
AreStatements before ((t ∷ ts) ∷ ps) = BeginsStatement before t × NoneBegins (before ++ t ∷ []) ts × AreStatements (before ++ t ∷ ts) ps
