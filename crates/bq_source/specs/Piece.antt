-- What a text begins with: the next piece, by the rule of the lexis that it falls under. A rule names its paragraph of the
-- Starlark specification, "Lexical elements". Which pieces make tokens is said in Reading.
use Rattle.std.specs.Prelude.{ℕ, ◌+◌, ◌<◌, ◌≤◌, List, [], ◌∷◌, length, take, ◌==◌, Some, None, is_some, if◌then◌else◌}
use Rattle.std.specs.List.{prefix_len}
use Rattle.bq_source.specs.declared.lexis.RunClass.TheVariants.{Blank, Word}
use Rattle.bq_source.specs.declared.operators.Lexeme.TheVariants.{Plain}
use Rattle.bq_source.specs.declared.piece.Extent.{Extent}
use Rattle.bq_source.specs.declared.piece.Piece.{Piece}
use Rattle.bq_source.specs.declared.piece.Piece.TheVariants.{Gap, LineEnd, Lexed, Bad}
use Rattle.bq_source.specs.declared.token.TokenKind.TheVariants as k
use Rattle.bq_base.specs.declared.fault.TokenFault.TheVariants as f
use Rattle.bq_source.specs.Lexis.{has, is_blank, is_letter, newlines, newline_len, comment_len, word_kind}
use Rattle.bq_source.specs.Operators.{operator}
use Rattle.bq_source.specs.Number.{begins_number, number_len, int_value}
use Rattle.bq_source.specs.StringLiteral.{begins_string, scan_string}

-- n bytes of one line
abbrev pub bytes : ℕ → Extent
bytes n = record { len = n; lines = 0 }

-- "Identifiers" and "Keywords": the longest run of letters, digits and underscores
unfoldable pub word : List ℕ → Piece
word text = let n = prefix_len (has Word) text in Lexed (Plain (word_kind (take n text))) (bytes n)

-- "Literals": the longest run of letters, digits, underscores and dots has to be an integer
unfoldable pub number : List ℕ → Piece
number text = let n = number_len text in if is_some (int_value (take n text)) then Lexed (Plain k.Int) (bytes n) else Bad f.BadInt 0

-- "String literals": a missing end takes precedence over a bad escape, which is a fault of its own line (ours)
unfoldable pub string : List ℕ → Piece
string text = elim (scan_string text) [
  | None ↦ Bad f.OpenString 0
  | Some l ↦ elim l.bad_escape [
    | None ↦ Lexed (Plain k.String) (record { len = l.len; lines = newlines (take l.len text) })
    | Some before ↦ Bad f.Escape (newlines (take before text))
  ]
]

-- "Punctuation": the longest spelling; any other byte is not one of the lexis
unfoldable pub mark : List ℕ → Piece
mark text = elim (operator text) [ None ↦ Bad f.BadByte 0 | Some entry ↦ Lexed entry.1 (bytes (length entry.0)) ]

-- a backslash before a line end joins two lines; any other is not one of the lexis
unfoldable pub joined : List ℕ → Piece
joined behind = let n = newline_len behind in if n == 0 then Bad f.BadByte 0 else Gap (record { len = n + 1; lines = 1 })

-- what a text begins with
abbrev pub piece_by : List ℕ → List ℕ → Piece
piece_by [] text = Bad f.BadByte 0
piece_by (b ∷ behind) text =
    if is_blank b then Gap (bytes (prefix_len (has Blank) text))
    else (if begins_string text then string text
    else (if is_letter b then word text
    else (if begins_number text then number text
    else (if b == 35 then Gap (bytes (comment_len text))
    else (if b == 92 then joined behind
    else (if newline_len text == 0 then mark text
    else LineEnd (record { len = newline_len text; lines = 1 })))))))

-- the piece that a text begins with
unfoldable pub next_piece : List ℕ → Piece
next_piece text = piece_by text text

-- it takes a byte at least, and no more than there are
pub record IsPart (text : List ℕ) (extent : Extent) : Type 0 where
  pub some : 0 < extent.len
  pub within : extent.len ≤ length text
  pub lines : extent.lines ≤ extent.len

-- the piece takes a byte at least and no more than the text has; a fault is no more lines further on than the text has bytes
abbrev pub Fits : List ℕ → Piece → Type 0
Fits text (Gap extent) = IsPart text extent
Fits text (LineEnd extent) = IsPart text extent
Fits text (Lexed lexeme extent) = IsPart text extent
Fits text (Bad kind lines) = lines ≤ length text
