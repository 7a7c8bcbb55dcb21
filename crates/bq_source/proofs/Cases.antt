-- Parts of definitions, as words that proofs name.
use Rattle.std.specs.Prelude.{ℕ, Option, Some, None, List, [], ◌∷◌, take, option_map, drop, Bool, false, ◌&&◌, ◌==◌, is_none, length, if◌then◌else◌}
use Rattle.bq_source.specs.declared.string_literal.ItemValue.{ItemValue}
use Rattle.bq_source.specs.declared.string_literal.ItemValue.TheVariants.{Byte, BadEscape}
use Rattle.bq_source.specs.declared.string_literal.BodyPart.{BodyPart}
use Rattle.bq_source.specs.declared.string_literal.BodyPart.TheVariants.{Closing, Unclosed, Item}
use Rattle.bq_source.specs.StringLiteral.{BodyItem, item_value, opening_len, items, literal_from, values}
use Rattle.bq_source.specs.declared.string_literal.Quoting.{Quoting}
use Rattle.bq_source.specs.declared.string_literal.StringLiteral.{StringLiteral}
use Rattle.bq_source.specs.declared.operators.Lexeme.TheVariants.{Plain}
use Rattle.bq_source.specs.declared.piece.Piece.{Piece}
use Rattle.bq_source.specs.declared.piece.Piece.TheVariants.{Lexed, Bad, LineEnd}
use Rattle.bq_source.specs.Lexis.{newlines, newline_len, is_reserved}
use Rattle.bq_source.specs.declared.token.TokenKind.TheVariants as k
use Rattle.bq_base.specs.declared.fault.TokenFault.TheVariants as f
use Rattle.bq_source.specs.declared.operators.Lexeme.{Lexeme}
use Rattle.bq_source.specs.Piece.{bytes}
use Rattle.bq_source.specs.declared.token.TokenKind.{TokenKind}

-- the byte of an escape, if there is such an escape
abbrev pub escape_by : Option ℕ → ItemValue
escape_by o = elim o [ None ↦ BadEscape | Some b ↦ Byte b ]

-- the items of a body, by its first part
abbrev pub items_by : BodyPart → ℕ → List ℕ → (ℕ → Option (List BodyItem)) → Option (List BodyItem)
items_by o b bs later = elim o [
  | Closing ↦ Some []
  | Unclosed ↦ None
  | Item more value ↦
      option_map (λ is. record { spelled = b ∷ take more bs; value = item_value value } ∷ is) (later more)
]

-- a string literal, by how it begins
abbrev pub scan_string_by : Option Quoting → List ℕ → Option StringLiteral
scan_string_by o text = elim o [ None ↦ None | Some q ↦ literal_from q (opening_len q) None (items q 0 (drop (opening_len q) text)) ]

-- the bytes that a literal stands for, by how it begins
abbrev pub string_value_by : Option Quoting → List ℕ → Option (List ℕ)
string_value_by o spelled = elim o [ None ↦ None | Some q ↦ option_map values (items q 0 (drop (opening_len q) spelled)) ]

-- a literal takes just so many bytes, and each of its escapes is one
abbrev pub is_whole : Option StringLiteral → ℕ → Bool
is_whole o n = elim o [ None ↦ false | Some l ↦ l.len == n && is_none l.bad_escape ]

-- a byte as it is written in quotes, by its escape
abbrev pub quoted_byte_by : ℕ → Option ℕ → List ℕ
quoted_byte_by b o = elim o [ None ↦ b ∷ [] | Some c ↦ 92 ∷ c ∷ [] ]

-- a string literal, or its bad escape
abbrev pub escapes_by : Option ℕ → ℕ → List ℕ → Piece
escapes_by o n text = elim o [
  | None ↦ Lexed (Plain k.String) (record { len = n; lines = newlines (take n text) })
  | Some before ↦ Bad f.Escape (newlines (take before text))
]

-- the piece of a string literal, if it has an end
abbrev pub string_by : Option StringLiteral → List ℕ → Piece
string_by o text = elim o [ None ↦ Bad f.OpenString 0 | Some l ↦ escapes_by l.bad_escape l.len text ]

-- the piece of an operator or a bracket
abbrev pub mark_by : Option (List ℕ × Lexeme) → Piece
mark_by o = elim o [ None ↦ Bad f.BadByte 0 | Some entry ↦ Lexed entry.1 (bytes (length entry.0)) ]

-- the end of a line
abbrev pub line_end : List ℕ → Piece
line_end text = LineEnd (record { len = newline_len text; lines = 1 })

-- a word that is no keyword: reserved, or a name
abbrev pub other_word : Bool → TokenKind
other_word o = if o then k.Reserved else k.Identifier

-- the token of a word, by the keyword that it is
abbrev pub word_kind_by : Option TokenKind → List ℕ → TokenKind
word_kind_by o word = elim o [ Some kind ↦ kind | None ↦ if is_reserved word then k.Reserved else k.Identifier ]
