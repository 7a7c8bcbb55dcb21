-- The tables of the lexis, in the order of the Starlark specification, "Lexical elements", for a reader to compare. The laws of
-- src/table_laws.rt say that the tables of `bq_source` are these, so that none changes without a change here. "(ours)" marks where
-- `bq` differs from the specification.
use Rattle.std.specs.Prelude.{ℕ, ◌≡◌, ◌⊎◌, List, [], ◌∷◌, length, codes}
use Rattle.bq_source.specs.declared.token.TokenKind.{TokenKind}
use Rattle.bq_source.specs.declared.token.TokenKind.TheVariants as k
use Rattle.bq_source.specs.declared.token.Token.{Token}
use Rattle.bq_base.specs.declared.fault.TokenFault.{TokenFault}
use Rattle.bq_base.specs.declared.fault.TokenFault.TheVariants as f

-- a line of a table, and an entry of a list
abbrev pub IsRow : {A B : Type 0} → A → B → List (A × B) → Type 0
IsRow a b [] = ⊥
IsRow a b (row ∷ rows) = (row ≡ (a, b)) ⊎ IsRow a b rows

-- the entry is in the list
abbrev pub IsIn : {A : Type 0} → A → List A → Type 0
IsIn a [] = ⊥
IsIn a (x ∷ xs) = (a ≡ x) ⊎ IsIn a xs

-- "Keywords"
abbrev pub keyword_table : List (List ℕ × TokenKind)
keyword_table =
    (codes "and", k.And)
    ∷ (codes "break", k.Break)
    ∷ (codes "continue", k.Continue)
    ∷ (codes "def", k.Def)
    ∷ (codes "elif", k.Elif)
    ∷ (codes "else", k.Else)
    ∷ (codes "for", k.For)
    ∷ (codes "if", k.If)
    ∷ (codes "in", k.In)
    ∷ (codes "lambda", k.Lambda)
    ∷ (codes "load", k.Load)
    ∷ (codes "not", k.Not)
    ∷ (codes "or", k.Or)
    ∷ (codes "pass", k.Pass)
    ∷ (codes "return", k.Return)
    ∷ []

-- "Keywords": those that may not be used as identifiers though they mean nothing yet
abbrev pub reserved_table : List (List ℕ)
reserved_table =
    codes "as"
    ∷ codes "assert"
    ∷ codes "class"
    ∷ codes "del"
    ∷ codes "except"
    ∷ codes "finally"
    ∷ codes "from"
    ∷ codes "global"
    ∷ codes "import"
    ∷ codes "is"
    ∷ codes "nonlocal"
    ∷ codes "raise"
    ∷ codes "try"
    ∷ codes "while"
    ∷ codes "with"
    ∷ codes "yield"
    ∷ []

-- what a word is: a keyword, a reserved word, or an identifier where it is neither
pub data IsWordOf (w : List ℕ) : TokenKind → Type 0 where
  keyword : {kind : TokenKind} → IsRow w kind keyword_table → IsWordOf w kind
  reserved : IsIn w reserved_table → IsWordOf w k.Reserved
  identifier : ((kind : TokenKind) → IsRow w kind keyword_table → ⊥) → (IsIn w reserved_table → ⊥) → IsWordOf w k.Identifier

-- "Punctuation", the brackets first
abbrev pub bracket_table : List (List ℕ × TokenKind)
bracket_table =
    (codes "(", k.LeftParen)
    ∷ (codes ")", k.RightParen)
    ∷ (codes "[", k.LeftBracket)
    ∷ (codes "]", k.RightBracket)
    ∷ (codes "{", k.LeftBrace)
    ∷ (codes "}", k.RightBrace)
    ∷ []

-- "Punctuation", all but the brackets: operators, assignments, the dot, the comma, the semicolon and the colon
abbrev pub mark_table : List (List ℕ × TokenKind)
mark_table =
    (codes "+", k.Plus)
    ∷ (codes "-", k.Minus)
    ∷ (codes "*", k.Star)
    ∷ (codes "/", k.Slash)
    ∷ (codes "//", k.SlashSlash)
    ∷ (codes "%", k.Percent)
    ∷ (codes "**", k.StarStar)
    ∷ (codes "~", k.Tilde)
    ∷ (codes "&", k.Ampersand)
    ∷ (codes "|", k.Pipe)
    ∷ (codes "^", k.Caret)
    ∷ (codes "<<", k.LessLess)
    ∷ (codes ">>", k.GreaterGreater)
    ∷ (codes ".", k.Dot)
    ∷ (codes ",", k.Comma)
    ∷ (codes "=", k.Assign)
    ∷ (codes ";", k.Semicolon)
    ∷ (codes ":", k.Colon)
    ∷ (codes "<", k.Less)
    ∷ (codes ">", k.Greater)
    ∷ (codes ">=", k.GreaterEqual)
    ∷ (codes "<=", k.LessEqual)
    ∷ (codes "==", k.EqualEqual)
    ∷ (codes "!=", k.NotEqual)
    ∷ (codes "+=", k.PlusAssign)
    ∷ (codes "-=", k.MinusAssign)
    ∷ (codes "*=", k.StarAssign)
    ∷ (codes "/=", k.SlashAssign)
    ∷ (codes "//=", k.SlashSlashAssign)
    ∷ (codes "%=", k.PercentAssign)
    ∷ (codes "&=", k.AmpersandAssign)
    ∷ (codes "|=", k.PipeAssign)
    ∷ (codes "^=", k.CaretAssign)
    ∷ (codes "<<=", k.LessLessAssign)
    ∷ (codes ">>=", k.GreaterGreaterAssign)
    ∷ []

-- an operator, a bracket or another mark, and its kind
abbrev pub IsMarkOf : List ℕ → TokenKind → Type 0
IsMarkOf bs kind = IsRow bs kind bracket_table ⊎ IsRow bs kind mark_table

-- "String literals": the byte after the backslash, and the byte that both stand for (the others of the specification are F5, ours)
abbrev pub escape_table : List (ℕ × ℕ)
escape_table = (110, 10) ∷ (114, 13) ∷ (116, 9) ∷ (92, 92) ∷ (39, 39) ∷ (34, 34) ∷ []

-- the string `"\c"`
abbrev pub escape_alone : ℕ → List ℕ
escape_alone c = 34 ∷ 92 ∷ c ∷ 34 ∷ []

-- "Identifiers": ASCII letters and `_` (ours: no others), and digits
abbrev pub letters : List ℕ
letters = codes "abcdefghijklmnopqrstuvwxyzABCDEFGHIJKLMNOPQRSTUVWXYZ_"

-- "Identifiers" and "Literals": the decimal digits
abbrev pub digits : List ℕ
digits = codes "0123456789"

-- how a number begins: with a digit, or with a dot and a digit
pub data BeginsNumber : List ℕ → Type 0 where
  digit : {b : ℕ} {bs : List ℕ} → IsIn b digits → BeginsNumber (b ∷ bs)
  dot : {b : ℕ} {bs : List ℕ} → IsIn b digits → BeginsNumber (46 ∷ b ∷ bs)

-- a text of one word or mark: its token, and the newline token that the end of the text supplies
abbrev pub alone : List ℕ → TokenKind → List Token
alone bs kind = record { kind = kind; start = 0; end = length bs; line = 1 } ∷ record { kind = k.Newline; start = length bs; end = length bs; line = 1 } ∷ []

-- the faults of the lexis: their numbers and names (ours)
abbrev pub fault_table : List (TokenFault × ℕ × List ℕ)
fault_table =
    (f.BadByte, 1, codes "BadByte")
    ∷ (f.Indent, 2, codes "Indent")
    ∷ (f.Tab, 3, codes "Tab")
    ∷ (f.OpenString, 4, codes "OpenString")
    ∷ (f.Escape, 5, codes "Escape")
    ∷ (f.BadInt, 6, codes "BadInt")
    ∷ (f.Bracket, 7, codes "Bracket")
    ∷ (f.FileTooLong, 8, codes "FileTooLong")
    ∷ []
