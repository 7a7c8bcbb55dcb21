-- Bytes as code points, and back: UTF-8 (RFC 3629), where each byte of what is no UTF-8 stands as a lone surrogate (PEP 383, `surrogateescape`).
use Rattle.std.specs.Prelude.{ℕ, zero, suc, ◌+◌, ◌-◌, ◌<◌, Bool, List, [], ◌∷◌, Option, Some, None, encode_utf8, if◌then◌else◌}
use Rattle.std.specs.Int.{is_in_range}
use Rattle.std.specs.List.{All, flat_map}
use Rattle.bstr.specs.Utf8.{decoded}

-- each of the numbers is below 256
abbrev pub AreBytes : List ℕ → Type 0
AreBytes bs = All (λ b. b < 256) bs

-- the character at the front, or U+DC00 and the first byte where no character is there
abbrev pub point_by : Option ℕ → ℕ → ℕ
point_by (Some c) b = c
point_by None b = 0xDC00 + b

-- how many bytes that takes after its first
abbrev pub further_by : Option ℕ → ℕ → ℕ
further_by (Some c) size = size - 1
further_by None size = 0

-- the code points of bytes, of which the first k are of a character that was read. `decoded` is the table of RFC 3629, section 4
unfoldable pub points_after : ℕ → List ℕ → List ℕ
points_after k [] = []
points_after (suc k) (b ∷ bs) = points_after k bs
points_after zero (b ∷ bs) = point_by (decoded (b ∷ bs)).char b ∷ points_after (further_by (decoded (b ∷ bs)).char (decoded (b ∷ bs)).size) bs

-- the code points of a text: its characters, and for each byte of what is no UTF-8 one from U+DC80 to U+DCFF
abbrev pub code_points : List ℕ → List ℕ
code_points bs = points_after 0 bs

-- a code point that stands for a byte of what is no UTF-8
abbrev pub is_escaped_byte : ℕ → Bool
is_escaped_byte c = is_in_range 0xDC80 0xDCFF c

-- the bytes of a code point: the byte that it stands for, or else its UTF-8
unfoldable pub point_bytes : ℕ → List ℕ
point_bytes c = if is_escaped_byte c then (c - 0xDC00) ∷ [] else encode_utf8 c

-- the bytes of code points
abbrev pub bytes_of : List ℕ → List ℕ
bytes_of cs = flat_map point_bytes cs
