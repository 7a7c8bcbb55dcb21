-- How a text reads as a JSON string (RFC 8259, section 7), and as the bytes that its code points stand for (PEP 383).
use Rattle.std.specs.Prelude.{◌==◌, ℕ, zero, suc, ◌+◌, ◌-◌, ◌*◌, Bool, ◌&&◌, ◌||◌, nat_lt, List, [], ◌∷◌, Option, Some, None, option_map, option_and_then, if◌then◌else◌}
use Rattle.std.specs.Char.{digit_value}
use Rattle.std.specs.Int.{is_in_range}
use Rattle.std.specs.List.{list_all}
use Rattle.std.specs.Str.{chars, is_utf8}
use lib.Utf8.{scalar}
use Rattle.bq_package_values.specs.CodePoints.{is_escaped_byte, bytes_of}

-- a reader between two characters of a string, after `\`, or after `\u` with the value of the digits that it has read and with k + 1 to come
pub data Place : Type 0 where
  between : Place
  after_escape : Place
  digits : ℕ → ℕ → Place

-- what the letter after `\` stands for
abbrev pub letter_meaning : ℕ → Option ℕ
letter_meaning l =
    if l == 0x22 then Some 0x22 else (if l == 0x5C then Some 0x5C else (if l == 0x2F then Some 0x2F else (if l == 0x62 then Some 0x08
    else (if l == 0x66 then Some 0x0C else (if l == 0x6E then Some 0x0A else (if l == 0x72 then Some 0x0D else (if l == 0x74 then Some 0x09 else None)))))))

-- the value of `HEXDIG`, in either case
abbrev pub hex_value : ℕ → Option ℕ
hex_value d = if nat_lt (digit_value d) 16 then Some (digit_value d) else None

-- this code unit, and then what the rest stands for
abbrev pub onto : ℕ → Option (List ℕ) → Option (List ℕ)
onto u rest = option_map (λ us. u ∷ us) rest

-- the same with a code unit that may be missing; None where it is
abbrev pub onto_some : Option ℕ → Option (List ℕ) → Option (List ℕ)
onto_some None rest = None
onto_some (Some u) rest = onto u rest

-- no code units, if nothing comes after the closing quote; None where something does
abbrev pub at_end : List ℕ → Option (List ℕ)
at_end [] = Some []
at_end (c ∷ cs) = None

-- the code points that the characters after the opening quote stand for, up to the closing one, which is the last; `\u` has UTF-16 code units
unfoldable pub units : Place → List ℕ → Option (List ℕ)
units place [] = None
units between (c ∷ cs) =
    if c == 0x22 then at_end cs else (if c == 0x5C then units after_escape cs else (if nat_lt c 0x20 then None else onto c (units between cs)))
units after_escape (c ∷ cs) = if c == 0x75 then units (digits 3 0) cs else onto_some (letter_meaning c) (units between cs)
units (digits zero value) (c ∷ cs) = option_and_then (λ d. onto (value * 16 + d) (units between cs)) (hex_value c)
units (digits (suc k) value) (c ∷ cs) = option_and_then (λ d. units (digits k (value * 16 + d)) cs) (hex_value c)

-- a code unit from U+D800 to U+DBFF, the first one of a pair
abbrev pub is_high : ℕ → Bool
is_high u = is_in_range 0xD800 0xDBFF u

-- a code unit from U+DC00 to U+DFFF, the second one of a pair
abbrev pub is_low : ℕ → Bool
is_low u = is_in_range 0xDC00 0xDFFF u

-- a high surrogate and a low one after it are the pair of one character
unfoldable pub joined : List ℕ → List ℕ
joined [] = []
joined (u ∷ []) = u ∷ []
joined (u ∷ v ∷ us) = if is_high u && is_low v then (0x1_0000 + ((u - 0xD800) * 1024 + (v - 0xDC00))) ∷ joined us else u ∷ joined (v ∷ us)

-- the code point has bytes: a character, or one that stands for a byte
abbrev pub has_bytes : ℕ → Bool
has_bytes c = scalar c || is_escaped_byte c

-- the bytes of code points; None where one of them has none
abbrev pub bytes_if_all : List ℕ → Option (List ℕ)
bytes_if_all cs = if list_all has_bytes cs then Some (bytes_of cs) else None

-- the bytes that the characters of a string stand for
abbrev pub quoted_bytes : List ℕ → Option (List ℕ)
quoted_bytes [] = None
quoted_bytes (c ∷ cs) = if c == 0x22 then option_and_then (λ us. bytes_if_all (joined us)) (units between cs) else None

-- the bytes that a text stands for, if it is a JSON string
unfoldable pub reads_string : List ℕ → Option (List ℕ)
reads_string text = if is_utf8 text then quoted_bytes (chars text) else None
