-- Which bytes are a token at the front of a text (Bazel query reference, "Tokens"; what is ours is marked).
--
-- Bytes by number: 9 the tab, 10 the newline, 13 the carriage return, 32 the space, 34 `"`, 36 `$`, 39 `'`, 40 `(`, 41 `)`, 42 `*`, 43 `+`, 44 `,`, 45 `-`, 61 `=`, 94 `^`, 95 `_`.
use Rattle.std.specs.Prelude.{ℕ, ◌+◌, ◌==◌, ◌&&◌, ◌||◌, Bool, not, nat_le, nat_eq, bytes_eq, List, [], ◌∷◌, take, Option, Some, None, codes, position, false, if◌then◌else◌}
use Rattle.std.specs.List.{list_all, list_any, prefix_len}
use Rattle.std.specs.Option.{option_or}
use Rattle.std.specs.Map.{lookup}
use Rattle.bq_query_lex.specs.declared.token.QueryTokenKind.{QueryTokenKind}
use Rattle.bq_query_lex.specs.declared.token.QueryTokenKind.TheVariants as k
use Rattle.bq_query_lex.specs.declared.lexis.QueryPiece.{QueryPiece}
use Rattle.bq_query_lex.specs.declared.lexis.QueryPiece.TheVariants.{End, Blank, Found, Unknown}

-- what parts tokens (ours): space, tab, newline, carriage return
abbrev pub is_blank : ℕ → Bool
is_blank b = list_any (nat_eq b) (32 ∷ 9 ∷ 10 ∷ 13 ∷ [])

-- `"` or `'`
abbrev pub is_quote : ℕ → Bool
is_quote b = b == 34 || b == 39

-- a letter or a digit of ASCII
abbrev pub is_letter_or_digit : ℕ → Bool
is_letter_or_digit b = (nat_le 97 b && nat_le b 122) || (nat_le 65 b && nat_le b 90) || (nat_le 48 b && nat_le b 57)

-- "Words": a word without quotes is made of letters, digits and `*/@.-_:$~[]`
abbrev pub is_word_byte : ℕ → Bool
is_word_byte b = is_letter_or_digit b || list_any (nat_eq b) (codes "*/@.-_:$~[]")

-- and begins with neither `-` nor `*`
abbrev pub begins_word : ℕ → Bool
begins_word b = is_word_byte b && not (b == 45 || b == 42)

-- the tokens of one byte
abbrev pub punctuation : List (ℕ × QueryTokenKind)
punctuation =
    (40, k.Open) ∷ (41, k.Close) ∷ (44, k.Comma) ∷ (61, k.Equals) ∷ (43, k.Union) ∷ (94, k.Intersect) ∷ (45, k.Except) ∷ []

-- the words that are tokens of their own
abbrev pub keywords : List (List ℕ × QueryTokenKind)
keywords =
    (codes "except", k.Except) ∷ (codes "in", k.In) ∷ (codes "intersect", k.Intersect) ∷ (codes "let", k.Let) ∷ (codes "set", k.Set) ∷ (codes "union", k.Union) ∷ []

-- what a variable's name is made of
abbrev pub is_name_byte : ℕ → Bool
is_name_byte b = is_letter_or_digit b || b == 95

-- letters, digits and underscores, at least one
abbrev pub is_variable_name : List ℕ → Bool
is_variable_name [] = false
is_variable_name (b ∷ bs) = list_all is_name_byte (b ∷ bs)

-- a word that begins with `$` is a variable or none (ours)
abbrev pub plain_kind : List ℕ → Option QueryTokenKind
plain_kind [] = None
plain_kind (b ∷ bs) = if b == 36 then (if is_variable_name bs then Some k.Variable else None) else Some k.Word

-- the kind of a word without quotes
unfoldable pub word_kind : List ℕ → Option QueryTokenKind
word_kind word = option_or (lookup (bytes_eq word) keywords) (plain_kind word)

-- the longest run of the bytes of words, if it is a word
unfoldable pub word_piece : List ℕ → QueryPiece
word_piece text = let n = prefix_len is_word_byte text in elim (word_kind (take n text)) [ Some kind ↦ Found kind n | None ↦ Unknown ]

-- "Quoting": all bytes up to the next quote of the same kind, if there is one
unfoldable pub quoted_piece : ℕ → List ℕ → QueryPiece
quoted_piece quote rest = elim (position (λ b. b == quote) rest) [ Some n ↦ Found k.Quoted (n + 2) | None ↦ Unknown ]

-- what begins here, where no token of one byte does
abbrev pub other_piece : ℕ → List ℕ → QueryPiece
other_piece b bs = if is_quote b then quoted_piece b bs else (if begins_word b then word_piece (b ∷ bs) else Unknown)

-- what is at the front of a text
unfoldable pub piece_of : List ℕ → QueryPiece
piece_of [] = End
piece_of (b ∷ bs) = if is_blank b then Blank else elim (lookup (nat_eq b) punctuation) [ Some kind ↦ Found kind 1 | None ↦ other_piece b bs ]
