-- The text of a string: it is UTF-8 without controls, and reads as the bytes.
use Rattle.std.proofs.Common.{◌≡◌, ◌⊎◌, ℕ, ◌+◌, ◌<◌, ◌≤◌, Bool, true, false, ◌&&◌, List, [], ◌∷◌, ◌++◌, slice_index, Some, IsUtf8, refl, ap, ◌∙◌, ⊎_elim, arith}
use Rattle.std.specs.Prelude.{nat_le, nat_lt, option_and_then, EachIndex}
use Rattle.std.specs.List.{flat_map, list_all}
use Rattle.std.specs.Str.{encode_utf8_all, NonePass}
use Rattle.std.proofs.lemmas.Bool.{and_from, and_parts, cases_Bool, cases_lt, cond-true, le-leb, or_cases}
use Rattle.std.proofs.lemmas.Bool.Decides.{nat_tests}
use Rattle.std.proofs.lemmas.Str.{chars-encodes, is_utf8-from_IsUtf8, NoCharPasses-byte}
use lib.Utf8.{scalar, scalars, low_scalar}
use Rattle.bq_package_values.specs.CodePoints.{AreBytes, code_points, is_escaped_byte, bytes_of}
use Rattle.bq_package_values.specs.JsonString.{is_unescaped, escape, json_char, json_chars, json_string}
use Rattle.bq_package_values.specs.JsonReading.{joined, has_bytes, bytes_if_all, quoted_bytes, reads_string}
use Rattle.bq_package_values.proofs.Escapes.{is_printable, escape_printable}
use Rattle.bq_package_values.proofs.Fronts.{json_char_unescaped, json_char_escaped}
use Rattle.bq_package_values.proofs.Points.{bytes_of-code_points, code_points_have_bytes, joined_same}
use Rattle.bq_package_values.proofs.Units.{units_chars}

-- a character that is no control
abbrev is_text : ℕ → Bool
is_text c = scalar c && nat_le 0x20 c

all_text-append : (xs ys : List ℕ) → list_all is_text xs ≡ true → list_all is_text ys ≡ true → list_all is_text (xs ++ ys) ≡ true
all_text-append [] ys first rest = rest
all_text-append (x ∷ xs) ys first rest =
    let both = and_parts (is_text x) _ first in and_from _ _ both.0 (all_text-append xs ys both.1 rest)

printable_text : (c : ℕ) → is_printable c ≡ true → is_text c ≡ true
printable_text c h =
    let low : c < 128 = grind (arith, nat_tests) in
    let high : 0x20 ≤ c = grind (arith, nat_tests) in
    and_from _ _ (low_scalar c (omega arith)) (le-leb 0x20 c high)

all_printable_text : (cs : List ℕ) → list_all is_printable cs ≡ true → list_all is_text cs ≡ true
all_printable_text [] all = refl
all_printable_text (c ∷ cs) all =
    let both = and_parts (is_printable c) _ all in and_from _ _ (printable_text c both.0) (all_printable_text cs both.1)

escaped_small : (c : ℕ) → is_unescaped c ≡ false → c < 65536
escaped_small c h = grind (arith, nat_tests)

unescaped_high : (c : ℕ) → is_unescaped c ≡ true → 0x20 ≤ c
unescaped_high c h = grind (arith, nat_tests)

escape_byte_escaped : (c : ℕ) → is_unescaped c ≡ true → is_escaped_byte c ≡ true → ⊥
escape_byte_escaped c h k = grind (arith, nat_tests)

unescaped_scalar : (c : ℕ) → is_unescaped c ≡ true → has_bytes c ≡ true → scalar c ≡ true
unescaped_scalar c h has = ⊎_elim (λ yes. yes) (λ byte. absurd (escape_byte_escaped c h byte)) (or_cases (scalar c) (is_escaped_byte c) has)

json_char_text : (c : ℕ) → has_bytes c ≡ true → list_all is_text (json_char c) ≡ true
json_char_text c has =
    ⊎_elim
    (λ plain.
    ap (λ t. list_all is_text t) (json_char_unescaped c plain)
    ∙ and_from _ _ (and_from _ _ (unescaped_scalar c plain has) (le-leb 0x20 c (unescaped_high c plain))) refl)
    (λ other.
    ap (λ t. list_all is_text t) (json_char_escaped c other) ∙ all_printable_text (escape c) (escape_printable c (escaped_small c other)))
    (cases_Bool (is_unescaped c))

between_text : (cs : List ℕ) → list_all has_bytes cs ≡ true → list_all is_text (flat_map json_char cs) ≡ true
between_text [] all = refl
between_text (c ∷ cs) all =
    let both = and_parts (has_bytes c) _ all in
    all_text-append (json_char c) (flat_map json_char cs) (json_char_text c both.0) (between_text cs both.1)

json_chars_text : (cs : List ℕ) → list_all has_bytes cs ≡ true → list_all is_text (json_chars cs) ≡ true
json_chars_text cs all = all_text-append (flat_map json_char cs) (0x22 ∷ []) (between_text cs all) refl

text_scalars : (cs : List ℕ) → list_all is_text cs ≡ true → scalars cs ≡ true
text_scalars [] all = refl
text_scalars (c ∷ cs) all =
    let both = and_parts (is_text c) _ all in and_from _ _ (and_parts (scalar c) _ both.0).0 (text_scalars cs both.1)

text_passes_none : (cs : List ℕ) → list_all is_text cs ≡ true → NonePass (λ c. nat_lt c 0x20) cs
text_passes_none [] all = tt
text_passes_none (c ∷ cs) all =
    let both = and_parts (is_text c) _ all in
    let high = and_parts (scalar c) _ both.0 in
    let no_control : nat_lt c 0x20 ≡ false = grind (arith, nat_tests) in
    (no_control, text_passes_none cs both.1)

chars_text : (bs : List ℕ) → AreBytes bs → list_all is_text (json_chars (code_points bs)) ≡ true
chars_text bs all = json_chars_text (code_points bs) (code_points_have_bytes bs all)

pub string_is_utf8 : (bs : List ℕ) → AreBytes bs → IsUtf8 (json_string bs)
unfolding json_string
string_is_utf8 bs all = (json_chars (code_points bs), (text_scalars (json_chars (code_points bs)) (chars_text bs all), refl))

pub string_is_one_line : (bs : List ℕ) → AreBytes bs → EachIndex (json_string bs) (λ i. 0x20 ≤ slice_index (json_string bs) i)
unfolding json_string
string_is_one_line bs all =
    let cs = json_chars (code_points bs) in
    let text = encode_utf8_all cs in
    λ i within.
    ⊎_elim
    (λ (low : slice_index text i < 128).
    let passes = NoCharPasses-byte (λ c. nat_lt c 0x20) text i (cs, refl, text_passes_none cs (chars_text bs all)) within low in
    let high : 0x20 ≤ slice_index text i = grind (arith, nat_tests) in high)
    (λ (high : 128 ≤ slice_index text i). omega arith)
    (cases_lt (slice_index text i) 128)

quoted : (cs : List ℕ) → list_all has_bytes cs ≡ true → quoted_bytes (json_chars cs) ≡ Some (bytes_of cs)
quoted cs all =
    ap (λ o. option_and_then (λ us. bytes_if_all (joined us)) o) (units_chars cs)
    ∙ ap bytes_if_all (joined_same cs all)
    ∙ cond-true _ _ _ all

pub string_reads_back : (bs : List ℕ) → AreBytes bs → reads_string (json_string bs) ≡ Some bs
unfolding reads_string json_string
string_reads_back bs all =
    let cs = code_points bs in
    cond-true _ _ _ (is_utf8-from_IsUtf8 _ (string_is_utf8 bs all))
    ∙ ap quoted_bytes (chars-encodes (json_chars cs) (text_scalars (json_chars cs) (chars_text bs all)))
    ∙ quoted cs (code_points_have_bytes bs all)
    ∙ ap Some (bytes_of-code_points bs all)
