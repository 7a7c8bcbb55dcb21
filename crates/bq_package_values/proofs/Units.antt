-- What a reader finds in the characters of a string.
use Rattle.std.proofs.Common.{◌≡◌, ◌⊎◌, ℕ, zero, suc, ◌+◌, ◌-◌, ◌*◌, ◌/◌, ◌%◌, ◌<◌, true, false, cond, List, [], ◌∷◌, ◌++◌, Option, Some, None, refl, ap, ◌∙◌, ⊎_elim, arith, append_assoc}
use Rattle.std.specs.Prelude.{◌==◌, nat_lt, option_and_then}
use Rattle.std.specs.Char.{digit_char}
use Rattle.std.specs.List.{flat_map}
use Rattle.std.proofs.lemmas.Bool.{cases_Bool, cond-true, cond-false, lt-ltb}
use Rattle.std.proofs.lemmas.Bool.Decides.{nat_tests}
use Rattle.std.proofs.lemmas.Str.{digit_value-digit_char}
use Rattle.bq_package_values.specs.JsonString.{is_unescaped, short_escape, escape_by, escape, json_char}
use Rattle.bq_package_values.specs.JsonReading.{between, after_escape, digits, hex_value, onto, onto_some, units}
use Rattle.bq_package_values.proofs.Escapes.{IsShort, short_letter}
use Rattle.bq_package_values.proofs.Fronts.{json_char_unescaped, json_char_escaped}

-- ---- `\uXXXX`

hex_value-digit_char : (x : ℕ) → x < 16 → hex_value (digit_char x) ≡ Some x
hex_value-digit_char x h =
    ap (λ v. cond (nat_lt v 16) (Some v) None) (digit_value-digit_char x (omega arith)) ∙ cond-true _ _ _ (lt-ltb x 16 h)

digit_step : (k value x : ℕ) (cs : List ℕ) → x < 16 → units (digits (suc k) value) (digit_char x ∷ cs) ≡ units (digits k (value * 16 + x)) cs
unfolding units
digit_step k value x cs h = ap (λ o. option_and_then (λ d. units (digits k (value * 16 + d)) cs) o) (hex_value-digit_char x h)

digit_last : (value x : ℕ) (cs : List ℕ) → x < 16 → units (digits zero value) (digit_char x ∷ cs) ≡ onto (value * 16 + x) (units between cs)
unfolding units
digit_last value x cs h = ap (λ o. option_and_then (λ d. onto (value * 16 + d) (units between cs)) o) (hex_value-digit_char x h)

units_digits : (c : ℕ) (rest : List ℕ) → c < 65536
    → units (digits 3 0) (digit_char (c / 4096) ∷ digit_char (c / 256 % 16) ∷ digit_char (c / 16 % 16) ∷ digit_char (c % 16) ∷ rest)
    ≡ onto c (units between rest)
units_digits c rest h =
    let x3 = c / 4096 in
    let x2 = c / 256 % 16 in
    let x1 = c / 16 % 16 in
    let x0 = c % 16 in
    let v3 = 0 * 16 + x3 in
    let v2 = v3 * 16 + x2 in
    let v1 = v2 * 16 + x1 in
    let value : v1 * 16 + x0 ≡ c = omega arith in
    digit_step 2 0 x3 _ (omega arith) ∙ digit_step 1 v3 x2 _ (omega arith) ∙ digit_step 0 v2 x1 _ (omega arith) ∙ digit_last v1 x0 rest (omega arith)
    ∙ ap (λ v. onto v (units between rest)) value

-- ---- one character

units_begin_escape : (l : ℕ) (rest : List ℕ) → units between (0x5C ∷ l ∷ rest) ≡ units after_escape (l ∷ rest)
unfolding units
units_begin_escape l rest = refl

units_begin_unicode : (rest : List ℕ) → units after_escape (0x75 ∷ rest) ≡ units (digits 3 0) rest
unfolding units
units_begin_unicode rest = refl

units_letter : (l c : ℕ) (rest : List ℕ) → IsShort c l → units after_escape (l ∷ rest) ≡ onto c (units between rest)
unfolding units
units_letter l c rest holds = cond-false _ _ _ holds.no_u ∙ ap (λ o. onto_some o (units between rest)) holds.meaning

units_escape_by : (o : Option ℕ) (c : ℕ) (rest : List ℕ) → c < 65536 → ((l : ℕ) → o ≡ Some l → IsShort c l)
    → units between (escape_by o c ++ rest) ≡ onto c (units between rest)
units_escape_by None c rest h letter = units_begin_escape 0x75 _ ∙ units_begin_unicode _ ∙ units_digits c rest h
units_escape_by (Some l) c rest h letter = units_begin_escape l rest ∙ units_letter l c rest (letter l refl)

units_escape : (c : ℕ) (rest : List ℕ) → c < 65536 → units between (escape c ++ rest) ≡ onto c (units between rest)
unfolding escape
units_escape c rest h = units_escape_by (short_escape c) c rest h (λ l e. short_letter c l e)

units_unescaped : (c : ℕ) (rest : List ℕ) → is_unescaped c ≡ true → units between (c ∷ rest) ≡ onto c (units between rest)
unfolding units
units_unescaped c rest h =
    let no_quote : c == 0x22 ≡ false = grind (arith, nat_tests) in
    let no_escape : c == 0x5C ≡ false = grind (arith, nat_tests) in
    let no_control : nat_lt c 0x20 ≡ false = grind (arith, nat_tests) in
    cond-false _ _ _ no_quote ∙ cond-false _ _ _ no_escape ∙ cond-false _ _ _ no_control

escaped_small : (c : ℕ) → is_unescaped c ≡ false → c < 65536
escaped_small c h = grind (arith, nat_tests)

units_char : (c : ℕ) (rest : List ℕ) → units between (json_char c ++ rest) ≡ onto c (units between rest)
units_char c rest =
    ⊎_elim
    (λ plain. ap (λ t. units between (t ++ rest)) (json_char_unescaped c plain) ∙ units_unescaped c rest plain)
    (λ other. ap (λ t. units between (t ++ rest)) (json_char_escaped c other) ∙ units_escape c rest (escaped_small c other))
    (cases_Bool (is_unescaped c))

-- ---- all of them

units_end : units between (0x22 ∷ []) ≡ Some []
unfolding units
units_end = refl

-- a reader finds the code points in the characters of a string
pub units_chars : (cs : List ℕ) → units between (flat_map json_char cs ++ 0x22 ∷ []) ≡ Some cs
units_chars [] = units_end
units_chars (c ∷ cs) =
    ap (λ t. units between t) (append_assoc (json_char c) (flat_map json_char cs) (0x22 ∷ []))
    ∙ units_char c (flat_map json_char cs ++ 0x22 ∷ [])
    ∙ ap (λ o. onto c o) (units_chars cs)
