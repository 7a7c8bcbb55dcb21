-- Integer literals, by the Starlark specification, "Lexical elements": "Literals".
use Rattle.std.specs.Prelude.{ℕ, ◌≡◌, ◌≢◌, ◌⊎◌, ◌-◌, ◌^◌, List, [], ◌∷◌, Bool, false, ◌&&◌, ◌||◌, ◌==◌, nat_le, Option, Some, None, if◌then◌else◌}
use Rattle.std.specs.Char.{is_digit}
use Rattle.std.specs.List.{list_all, prefix_len}
use Rattle.std.specs.Str.Parse.{digits_value, digits_value_after, IsNumeral}
use Rattle.bq_source.specs.Lexis as lexis
use Rattle.bq_source.specs.Lexis.{is_word}

-- a text begins with a decimal digit
abbrev pub begins_decimal : List ℕ → Bool
begins_decimal [] = false
begins_decimal (b ∷ bs) = lexis.is_digit b

-- A number begins with a digit, or with a dot before a digit.
abbrev pub begins_number : List ℕ → Bool
begins_number [] = false
begins_number (b ∷ bs) = lexis.is_digit b || b == 46 && begins_decimal bs

-- what a number is spelled with: letters, digits, `_` and `.`, so that `1.5`, `1_000` and `08` are one number each, and no valid one
abbrev pub is_number_byte : ℕ → Bool
is_number_byte b = is_word b || b == 46

-- the longest run of these
abbrev pub number_len : List ℕ → ℕ
number_len text = prefix_len is_number_byte text

-- integers have 64 bits, one of them for the sign (ours)
abbrev pub max_int : ℕ
max_int = 2 ^ 63 - 1

-- the number that digits of a base write after those of `n`, where they are digits of it and the number is no larger than `max_int`
abbrev pub numeral_after : ℕ → ℕ → List ℕ → Option ℕ
numeral_after base n ds =
    if list_all (λ c. is_digit c base) ds && nat_le (digits_value_after base n ds) max_int then Some (digits_value_after base n ds) else None

-- there has to be one digit at least
unfoldable pub numeral_value : ℕ → List ℕ → Option ℕ
numeral_value base [] = None
numeral_value base (c ∷ cs) = numeral_after base 0 (c ∷ cs)

-- what comes after a leading 0: nothing, or the base and its digits
abbrev pub after_zero : List ℕ → Option ℕ
after_zero [] = Some 0
after_zero (b ∷ digits) =
    if b == 120 || b == 88 then numeral_value 16 digits else (if b == 111 || b == 79 then numeral_value 8 digits else None)

-- The value of an integer literal: `0`, decimal digits without a leading zero, `0x` or `0X` before hexadecimal digits, `0o` or `0O`
-- before octal ones; `None` where the spelling is not one.
unfoldable pub int_value : List ℕ → Option ℕ
int_value [] = None
int_value (b ∷ bs) = if b == 48 then after_zero bs else numeral_value 10 (b ∷ bs)

-- In words of the text alone: a spelling and the number that it stands for.
pub data IsInt : List ℕ → ℕ → Type 0 where
  zero_digit : IsInt (48 ∷ []) 0
  decimal_digits : {c : ℕ} {cs : List ℕ} → c ≢ 48 → IsNumeral 10 (c ∷ cs) → IsInt (c ∷ cs) (digits_value 10 (c ∷ cs))
  hexadecimal : {x : ℕ} {digits : List ℕ} → (x ≡ 120) ⊎ (x ≡ 88) → IsNumeral 16 digits → IsInt (48 ∷ x ∷ digits) (digits_value 16 digits)
  octal : {o : ℕ} {digits : List ℕ} → (o ≡ 111) ⊎ (o ≡ 79) → IsNumeral 8 digits → IsInt (48 ∷ o ∷ digits) (digits_value 8 digits)
