-- Strings as JSON has them (RFC 8259, section 7), written as Python's `json.dumps(s, ensure_ascii=False)` writes them, but for lone
-- surrogates, which have no UTF-8 and are escaped.
use Rattle.std.specs.Prelude.{◌==◌, ℕ, ◌/◌, ◌%◌, Bool, ◌||◌, nat_le, List, [], ◌∷◌, ◌++◌, Option, Some, None, if◌then◌else◌}
use Rattle.std.specs.Char.{digit_char}
use Rattle.std.specs.Int.{is_in_range}
use Rattle.std.specs.List.{flat_map}
use Rattle.std.specs.Str.{encode_utf8_all}
use Rattle.bq_package_values.specs.CodePoints.{code_points}

-- `unescaped`: all but controls, `"`, `\` and surrogates
abbrev pub is_unescaped : ℕ → Bool
is_unescaped c = is_in_range 0x20 0x21 c || is_in_range 0x23 0x5B c || is_in_range 0x5D 0xD7FF c || nat_le 0xE000 c

-- a byte that is a character of its own, unescaped
abbrev pub is_plain : ℕ → Bool
is_plain b = is_in_range 0x20 0x21 b || is_in_range 0x23 0x5B b || is_in_range 0x5D 0x7F b

-- the letter after `\` for those that have one: `"`, `\`, backspace, tab, line feed, form feed, carriage return
abbrev pub short_escape : ℕ → Option ℕ
short_escape c =
    if c == 0x22 then Some 0x22 else (if c == 0x5C then Some 0x5C else (if c == 0x08 then Some 0x62 else (if c == 0x09 then Some 0x74
    else (if c == 0x0A then Some 0x6E else (if c == 0x0C then Some 0x66 else (if c == 0x0D then Some 0x72 else None))))))

-- `\uXXXX`
abbrev pub unicode_escape : ℕ → List ℕ
unicode_escape c =
    0x5C ∷ 0x75 ∷ digit_char (c / 4096) ∷ digit_char (c / 256 % 16) ∷ digit_char (c / 16 % 16) ∷ digit_char (c % 16) ∷ []

-- `\` and the letter; `\uXXXX` where there is none
abbrev pub escape_by : Option ℕ → ℕ → List ℕ
escape_by (Some letter) c = 0x5C ∷ letter ∷ []
escape_by None c = unicode_escape c

-- a code point below 0x10000 as it is escaped: by its letter if it has one, else by four hexadecimal digits
unfoldable pub escape : ℕ → List ℕ
escape c = escape_by (short_escape c) c

-- the characters for a code point
unfoldable pub json_char : ℕ → List ℕ
json_char c = if is_unescaped c then c ∷ [] else escape c

-- the characters of the string of these code points, between quotes
abbrev pub json_chars : List ℕ → List ℕ
json_chars cs = 0x22 ∷ (flat_map json_char cs ++ 0x22 ∷ [])

-- the text of a string, in UTF-8: `string_reads_back` says that a reader of JSON finds these bytes in it
unfoldable pub json_string : List ℕ → List ℕ
json_string bs = encode_utf8_all (json_chars (code_points bs))

-- what is between the quotes
unfoldable pub escaped : List ℕ → List ℕ
escaped bs = encode_utf8_all (flat_map json_char (code_points bs))
