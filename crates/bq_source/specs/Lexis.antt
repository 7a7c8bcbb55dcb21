-- How blanks, line ends and words are spelled, by the Starlark specification, "Lexical elements". "(ours)" marks where `bq`
-- differs. Bytes by number: 9 is the tab, 10 the newline, 13 the carriage return, 32 the space, 35 `#`, 92 the backslash.
use Rattle.std.specs.Prelude.{ℕ, ◌+◌, List, [], ◌∷◌, Bool, false, ◌&&◌, ◌||◌, ◌==◌, nat_le, count_by, length, slice_get, Option, Some, None, codes, if◌then◌else◌}
use Rattle.std.specs.Str.{bytes_eq}
use Rattle.std.specs.List.{list_any}
use Rattle.std.specs.Map.{lookup}
use Rattle.bq_source.specs.declared.lexis.RunClass.{RunClass}
use Rattle.bq_source.specs.declared.lexis.RunClass.TheVariants.{Space, Blank, Word}
use Rattle.bq_source.specs.declared.token.TokenKind.{TokenKind}
use Rattle.bq_source.specs.declared.token.TokenKind.TheVariants as k

-- "White space"
abbrev pub is_blank : ℕ → Bool
is_blank b = b == 32 || b == 9

-- "Identifiers": letters, digits and underscores, the first no digit. Letters are ASCII (ours).
abbrev pub is_letter : ℕ → Bool
is_letter b = nat_le 97 b && nat_le b 122 || nat_le 65 b && nat_le b 90 || b == 95

-- a decimal digit
abbrev pub is_digit : ℕ → Bool
is_digit b = nat_le 48 b && nat_le b 57

-- a byte that can stand in a name
abbrev pub is_word : ℕ → Bool
is_word b = is_letter b || is_digit b

-- a byte belongs to a run of this class
abbrev pub has : RunClass → ℕ → Bool
has Space b = b == 32
has Blank b = is_blank b
has Word b = is_word b

-- how many lines end in these bytes
abbrev pub newlines : List ℕ → ℕ
newlines bs = count_by (λ b. b == 10) bs

-- the first byte is this one
abbrev pub begins_with : ℕ → List ℕ → Bool
begins_with b [] = false
begins_with b (c ∷ cs) = c == b

-- how many bytes the line end at the front takes, 0 where there is none: a newline, or a carriage return before one (ours)
abbrev pub newline_len : List ℕ → ℕ
newline_len [] = 0
newline_len (b ∷ bs) = if b == 10 then 1 else (if b == 13 && begins_with 10 bs then 2 else 0)

-- "Comments" go on to the end of the line
abbrev pub comment_len : List ℕ → ℕ
comment_len [] = 0
comment_len (b ∷ bs) = if newline_len (b ∷ bs) == 0 then 1 + comment_len bs else 0

-- "Keywords"
abbrev pub keywords : List (List ℕ × TokenKind)
keywords =
    (codes "and", k.And) ∷ (codes "break", k.Break) ∷ (codes "continue", k.Continue) ∷ (codes "def", k.Def) ∷ (codes "elif", k.Elif)
    ∷ (codes "else", k.Else) ∷ (codes "for", k.For) ∷ (codes "if", k.If) ∷ (codes "in", k.In) ∷ (codes "lambda", k.Lambda)
    ∷ (codes "load", k.Load) ∷ (codes "not", k.Not) ∷ (codes "or", k.Or) ∷ (codes "pass", k.Pass) ∷ (codes "return", k.Return) ∷ []

-- the words that "may not be used as identifiers" though they mean nothing yet
abbrev pub reserved_words : List (List ℕ)
reserved_words =
    codes "as" ∷ codes "assert" ∷ codes "class" ∷ codes "del" ∷ codes "except" ∷ codes "finally" ∷ codes "from" ∷ codes "global" ∷ codes "import"
    ∷ codes "is" ∷ codes "nonlocal" ∷ codes "raise" ∷ codes "try" ∷ codes "while" ∷ codes "with" ∷ codes "yield" ∷ []

-- the token of a keyword
abbrev pub keyword : List ℕ → Option TokenKind
keyword word = lookup (bytes_eq word) keywords

-- a word of Python's that can't be a name
abbrev pub is_reserved : List ℕ → Bool
is_reserved word = list_any (bytes_eq word) reserved_words

-- the first bytes of the keywords and reserved words of each length, from 0 on
abbrev pub first_bytes : List (List ℕ)
first_bytes =
    [] ∷ [] ∷ codes "aio" ∷ codes "adfnt" ∷ codes "eflpw" ∷ codes "bcrwy" ∷ codes "aegilr" ∷ codes "f" ∷ codes "cn" ∷ []

-- the byte is one of these first bytes; false where there are none, as for a word that is longer than all keywords
abbrev pub is_first : ℕ → Option (List ℕ) → Bool
is_first b None = false
is_first b (Some bytes) = list_any (λ x. x == b) bytes

-- a word of such a first byte and length
abbrev pub has_head : List ℕ → Bool
has_head [] = false
has_head (b ∷ bs) = is_first b (slice_get first_bytes (length (b ∷ bs)))

-- the token of a word: the keyword's that it is, or else it is reserved or a name
unfoldable pub word_kind : List ℕ → TokenKind
word_kind word = elim (keyword word) [ Some kind ↦ kind | None ↦ if is_reserved word then k.Reserved else k.Identifier ]
