-- Operators and punctuation, by the Starlark specification, "Lexical elements": "Punctuation".
use Rattle.std.specs.Prelude.{ℕ, List, [], ◌∷◌, Option, Some, None, codes, length, nat_eq, if◌then◌else◌}
use Rattle.std.specs.List.{starts_with}
use Rattle.bq_source.specs.declared.operators.Lexeme.{Lexeme}
use Rattle.bq_source.specs.declared.operators.Lexeme.TheVariants.{Plain, Opens, Closes}
use Rattle.bq_source.specs.declared.token.TokenKind.{TokenKind}
use Rattle.bq_source.specs.declared.token.TokenKind.TheVariants as k

-- the token that a lexeme makes
abbrev pub kind_of : Lexeme → TokenKind
kind_of (Plain kind) = kind
kind_of (Opens kind closing) = kind
kind_of (Closes kind) = kind

-- All spellings, the frequent ones early. One that another begins with comes after it.
abbrev pub operators : List (List ℕ × Lexeme)
operators =
    (codes ",", Plain k.Comma) ∷ (codes "(", Opens k.LeftParen k.RightParen) ∷ (codes ")", Closes k.RightParen)
    ∷ (codes "==", Plain k.EqualEqual) ∷ (codes "=", Plain k.Assign)
    ∷ (codes "[", Opens k.LeftBracket k.RightBracket) ∷ (codes "]", Closes k.RightBracket) ∷ (codes ":", Plain k.Colon) ∷ (codes ".", Plain k.Dot)
    ∷ (codes "{", Opens k.LeftBrace k.RightBrace) ∷ (codes "}", Closes k.RightBrace)
    ∷ (codes "+=", Plain k.PlusAssign) ∷ (codes "+", Plain k.Plus)
    ∷ (codes "%=", Plain k.PercentAssign) ∷ (codes "%", Plain k.Percent)
    ∷ (codes "-=", Plain k.MinusAssign) ∷ (codes "-", Plain k.Minus)
    ∷ (codes "**", Plain k.StarStar) ∷ (codes "*=", Plain k.StarAssign) ∷ (codes "*", Plain k.Star)
    ∷ (codes "//=", Plain k.SlashSlashAssign) ∷ (codes "//", Plain k.SlashSlash) ∷ (codes "/=", Plain k.SlashAssign) ∷ (codes "/", Plain k.Slash)
    ∷ (codes "<<=", Plain k.LessLessAssign) ∷ (codes "<<", Plain k.LessLess) ∷ (codes "<=", Plain k.LessEqual) ∷ (codes "<", Plain k.Less)
    ∷ (codes ">>=", Plain k.GreaterGreaterAssign) ∷ (codes ">>", Plain k.GreaterGreater) ∷ (codes ">=", Plain k.GreaterEqual) ∷ (codes ">", Plain k.Greater)
    ∷ (codes "!=", Plain k.NotEqual)
    ∷ (codes "|=", Plain k.PipeAssign) ∷ (codes "|", Plain k.Pipe)
    ∷ (codes "&=", Plain k.AmpersandAssign) ∷ (codes "&", Plain k.Ampersand)
    ∷ (codes "^=", Plain k.CaretAssign) ∷ (codes "^", Plain k.Caret)
    ∷ (codes "~", Plain k.Tilde) ∷ (codes ";", Plain k.Semicolon) ∷ []

-- the first of these that the text begins with
abbrev pub first_spelled : List (List ℕ × Lexeme) → List ℕ → Option (List ℕ × Lexeme)
first_spelled [] text = None
first_spelled (entry ∷ entries) text = if starts_with nat_eq text entry.0 then Some entry else first_spelled entries text

-- an entry, with the number of its bytes in place of them
abbrev pub with_len : (List ℕ × Lexeme) → ℕ × Lexeme
with_len entry = (length entry.0, entry.1)

-- the longest operator that a text begins with, and what stands behind it
unfoldable pub operator : List ℕ → Option (List ℕ × Lexeme)
operator text = first_spelled operators text
