-- What is written of the first bytes of a string.
use Rattle.std.proofs.Common.{◌≡◌, ℕ, zero, suc, ◌+◌, ◌-◌, ◌<◌, ◌≤◌, true, false, List, [], ◌∷◌, ◌++◌, length, take, drop, slice_index, Some, None, refl, sym, ap, subst, ◌∙◌, ⊎_elim, arith, append_assoc}
use Rattle.std.specs.List.{flat_map}
use Rattle.std.specs.Char.{encode_utf8, IsScalar}
use Rattle.std.specs.Str.{encode_utf8_all}
use Rattle.std.proofs.lemmas.Bool.{cases_lt, cond-true, cond-false}
use Rattle.std.proofs.lemmas.Bool.Decides.{nat_tests}
use Rattle.std.proofs.lemmas.List.{append-nil, drop_more, nil_from_length, take_more, take_at}
use Rattle.std.proofs.lemmas.Str.{encode_ascii, encodes-append}
use lib.Utf8.{scalar_cases}
use Rattle.bstr.specs.Utf8.{Decoded, decoded, good}
use Rattle.bstr.proofs.lemmas.PieceLemmas.{value-1, piece-bounds}
use Rattle.bstr.proofs.lemmas.SoundLemmas.{SpellsChar, SpellsChar-decoded}
use Rattle.bq_package_values.specs.CodePoints.{point_by, further_by, points_after, code_points}
use Rattle.bq_package_values.specs.JsonString.{is_unescaped, is_plain, escape, json_char, json_string, escaped}
use Rattle.bq_package_values.proofs.Escapes.{escape_low}

-- ---- code points

pub decoded_ascii : (b : ℕ) (bs : List ℕ) → b < 128 → decoded (b ∷ bs) ≡ good b 1
decoded_ascii b bs low =
    value-1 (length (b ∷ bs)) b (slice_index (b ∷ bs) 1) (slice_index (b ∷ bs) 2) (slice_index (b ∷ bs) 3) (omega arith, low)

pub points_ascii : (b : ℕ) (bs : List ℕ) → b < 128 → code_points (b ∷ bs) ≡ b ∷ code_points bs
unfolding points_after
points_ascii b bs low = ap (λ (d : Decoded). point_by d.char b ∷ points_after (further_by d.char d.size) bs) (decoded_ascii b bs low)

pub points_lone : (b : ℕ) (bs : List ℕ) → (decoded (b ∷ bs)).char ≡ None → code_points (b ∷ bs) ≡ (0xDC00 + b) ∷ code_points bs
unfolding points_after
points_lone b bs none = ap (λ o. point_by o b ∷ points_after (further_by o (decoded (b ∷ bs)).size) bs) none

pub points_skip : (k : ℕ) (bs : List ℕ) → points_after k bs ≡ code_points (drop k bs)
unfolding points_after
points_skip zero bs = refl
points_skip (suc k) [] = refl
points_skip (suc k) (b ∷ bs) = points_skip k bs

pub points_char : (b : ℕ) (bs : List ℕ) (c n : ℕ) → (decoded (b ∷ bs)).char ≡ Some c → (decoded (b ∷ bs)).size ≡ n → 0 < n
    → code_points (b ∷ bs) ≡ c ∷ code_points (drop n (b ∷ bs))
unfolding points_after
points_char b bs c n some size pos =
    let step : n ≡ suc (n - 1) = omega arith in
    ap (λ o. point_by o b ∷ points_after (further_by o (decoded (b ∷ bs)).size) bs) some
    ∙ ap (λ m. c ∷ points_after (m - 1) bs) size
    ∙ ap (λ t. c ∷ t) (points_skip (n - 1) bs)
    ∙ ap (λ m. c ∷ code_points (drop m (b ∷ bs))) (sym step)

-- ---- characters

pub json_char_unescaped : (c : ℕ) → is_unescaped c ≡ true → json_char c ≡ c ∷ []
unfolding json_char
json_char_unescaped c h = cond-true _ _ _ h

pub json_char_escaped : (c : ℕ) → is_unescaped c ≡ false → json_char c ≡ escape c
unfolding json_char
json_char_escaped c h = cond-false _ _ _ h

pub plain_low : (b : ℕ) → is_plain b ≡ true → b < 128
plain_low b h = grind (arith, nat_tests)

pub plain_unescaped : (b : ℕ) → is_plain b ≡ true → is_unescaped b ≡ true
plain_unescaped b h = grind (arith, nat_tests)

pub ascii_escaped : (b : ℕ) → b < 128 → is_plain b ≡ false → is_unescaped b ≡ false
ascii_escaped b low h = grind (arith, nat_tests)

pub lone_escaped : (b : ℕ) → b < 256 → is_unescaped (0xDC00 + b) ≡ false
lone_escaped b low = grind (arith, nat_tests)

pub scalar_unescaped : (c : ℕ) → IsScalar c → 128 ≤ c → is_unescaped c ≡ true
scalar_unescaped c valid high = ⊎_elim (λ low. grind (arith, nat_tests)) (λ top. grind (arith, nat_tests)) (scalar_cases c valid)

-- ---- texts

escaped_point : (bs rest : List ℕ) (c : ℕ) → code_points bs ≡ c ∷ code_points rest → escaped bs ≡ encode_utf8_all (json_char c) ++ escaped rest
unfolding escaped
escaped_point bs rest c e = ap (λ cs. encode_utf8_all (flat_map json_char cs)) e ∙ encodes-append (json_char c) (flat_map json_char (code_points rest))

escaped_plain : (b : ℕ) (bs : List ℕ) → is_plain b ≡ true → escaped (b ∷ bs) ≡ b ∷ escaped bs
escaped_plain b bs plain =
    escaped_point (b ∷ bs) bs b (points_ascii b bs (plain_low b plain))
    ∙ ap (λ cs. encode_utf8_all cs ++ escaped bs) (json_char_unescaped b (plain_unescaped b plain))
    ∙ ap (λ t. (t ++ []) ++ escaped bs) (encode_ascii b (plain_low b plain))

-- plain bytes stand for themselves
pub front_plain : (bs : List ℕ) (i : ℕ) → i < length bs → is_plain (slice_index bs i) ≡ true → escaped bs ≡ take i bs ++ escaped (drop i bs)
    → escaped bs ≡ take (i + 1) bs ++ escaped (drop (i + 1) bs)
front_plain bs i within plain before =
    let b = slice_index bs i in
    let rest = drop (i + 1) bs in
    before
    ∙ ap (λ t. take i bs ++ escaped t) (drop_more bs i 0 within)
    ∙ ap (λ t. take i bs ++ t) (escaped_plain b rest plain)
    ∙ sym (append_assoc (take i bs) (b ∷ []) (escaped rest))
    ∙ ap (λ t. t ++ escaped rest) (sym (take_more bs i 0 within))

-- another character of ASCII has its escape
pub front_escape : (bs : List ℕ) → 0 < length bs → slice_index bs 0 < 128 → is_plain (slice_index bs 0) ≡ false
    → escaped bs ≡ escape (slice_index bs 0) ++ escaped (drop 1 bs)
front_escape [] some low plain = absurd (omega arith)
front_escape (b ∷ bs) some low plain =
    escaped_point (b ∷ bs) bs b (points_ascii b bs low)
    ∙ ap (λ cs. encode_utf8_all cs ++ escaped bs) (json_char_escaped b (ascii_escaped b low plain))
    ∙ ap (λ t. t ++ escaped bs) (escape_low b (omega arith))

-- a byte where no character begins has that of its code point
pub front_lone : (bs : List ℕ) → 0 < length bs → slice_index bs 0 < 256 → (decoded bs).char ≡ None
    → escaped bs ≡ escape (0xDC00 + slice_index bs 0) ++ escaped (drop 1 bs)
front_lone [] some low none = absurd (omega arith)
front_lone (b ∷ bs) some low none =
    escaped_point (b ∷ bs) bs (0xDC00 + b) (points_lone b bs none)
    ∙ ap (λ cs. encode_utf8_all cs ++ escaped bs) (json_char_escaped (0xDC00 + b) (lone_escaped b low))
    ∙ ap (λ t. t ++ escaped bs) (escape_low (0xDC00 + b) (omega arith))

-- a character that begins with no ASCII byte is none of ASCII
further_high : (bs : List ℕ) (c n : ℕ) → SpellsChar bs c n → 128 ≤ slice_index bs 0 → 128 ≤ c
further_high bs c n spells high =
    ⊎_elim
    (λ (low : c < 128).
    let first : slice_index bs 0 ≡ c = ap (λ t. slice_index t 0) (spells.bytes ∙ ap (λ t. t ++ drop n bs) (encode_ascii c low)) in
    absurd (omega arith))
    (λ high. high)
    (cases_lt c 128)

-- a character of several bytes stands for itself
pub front_char : (bs : List ℕ) (c n : ℕ) → 0 < length bs → 128 ≤ slice_index bs 0 → (decoded bs).char ≡ Some c → n ≡ (decoded bs).size
    → escaped bs ≡ take n bs ++ escaped (drop n bs)
front_char [] c n some high char size = absurd (omega arith)
front_char (b ∷ bs) c n some high char size =
    let all = b ∷ bs in
    let spells : SpellsChar all c n = subst (λ m. SpellsChar all c m) (sym size) (SpellsChar-decoded all c char) in
    let pos : 0 < n = omega (arith, (piece-bounds all some).0) in
    let front : take n all ≡ encode_utf8 c = ap (λ t. take n t) spells.bytes ∙ take_at (encode_utf8 c) (drop n all) n spells.width in
    escaped_point all (drop n all) c (points_char b bs c n char (sym size) pos)
    ∙ ap (λ cs. encode_utf8_all cs ++ escaped (drop n all)) (json_char_unescaped c (scalar_unescaped c spells.scalar (further_high all c n spells high)))
    ∙ ap (λ t. t ++ escaped (drop n all)) (append-nil (encode_utf8 c) ∙ sym front)

-- how many bytes a character takes
pub front_within : (bs : List ℕ) (n : ℕ) → 0 < length bs → n ≡ (decoded bs).size → (0 < n) × (n ≤ length bs)
front_within bs n some size = let bounds = piece-bounds bs some in (omega (arith, bounds.0), omega (arith, bounds.2))

-- ---- the whole string

escaped-nil : escaped [] ≡ []
unfolding escaped points_after
escaped-nil = refl

-- nothing is left to write
pub all_escaped : (text rest all : List ℕ) → length rest ≡ 0 → text ++ escaped rest ≡ all → text ≡ all
all_escaped text rest all none e =
    sym (append-nil text) ∙ ap (λ t. text ++ t) (sym escaped-nil ∙ ap escaped (sym (nil_from_length rest none))) ∙ e

json_string_is : (bs : List ℕ) → json_string bs ≡ 0x22 ∷ (escaped bs ++ 0x22 ∷ [])
unfolding json_string escaped encode_utf8
json_string_is bs = ap (λ t. 0x22 ∷ t) (encodes-append (flat_map json_char (code_points bs)) (0x22 ∷ []))

-- a quote, what is between, and a quote
pub quoted_text : (old opened inside closed bs : List ℕ) → opened ≡ old ++ 0x22 ∷ [] → inside ≡ opened ++ escaped bs → closed ≡ inside ++ 0x22 ∷ []
    → closed ≡ old ++ json_string bs
quoted_text old opened inside closed bs e1 e2 e3 =
    e3
    ∙ ap (λ t. t ++ 0x22 ∷ []) (e2 ∙ ap (λ t. t ++ escaped bs) e1)
    ∙ append_assoc (old ++ 0x22 ∷ []) (escaped bs) (0x22 ∷ [])
    ∙ append_assoc old (0x22 ∷ []) (escaped bs ++ 0x22 ∷ [])
    ∙ ap (λ t. old ++ t) (sym (json_string_is bs))
