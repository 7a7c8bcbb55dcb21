-- Numerals, a digit at a time.
use Rattle.std.proofs.Common.{◌≡◌, ℕ, ◌+◌, ◌*◌, ◌<◌, ◌≤◌, List, [], ◌∷◌, false, Some, None, length, refl, ap, ◌∙◌, arith, get_or, drop, drop-cons, add-one, ⊎_elim}
use Rattle.std.proofs.Math.Nat.{mul-le-mul_left}
use Rattle.std.proofs.lemmas.Bool.{lt-ltb, le-ltb, le-leb, lt-leb, cases_lt, and_right}
use Rattle.std.specs.Char.{digit_value, is_digit}
use Rattle.std.specs.List.{list_all}
use Rattle.std.specs.Str.Parse.{digits_value_after}
use Rattle.bq_source.specs.Number.{max_int, numeral_after}

-- more digits make no smaller number
after_ge : (base n : ℕ) (ds : List ℕ) → 1 ≤ base → n ≤ digits_value_after base n ds
after_ge base n [] h = omega arith
after_ge base n (c ∷ cs) h =
    let more = after_ge base (n * base + digit_value c) cs h in
    let wide : n * 1 ≤ n * base = mul-le-mul_left n h in
    omega (arith, more, wide)

on : (base n c : ℕ) (cs : List ℕ) → digit_value c < base → numeral_after base n (c ∷ cs) ≡ numeral_after base (n * base + digit_value c) cs
on base n c cs h = rw (lt-ltb (digit_value c) base h) refl

too_large : (base n : ℕ) (cs : List ℕ) → 1 ≤ base → max_int < n → numeral_after base n cs ≡ None
too_large base n cs one h =
    let above : max_int < digits_value_after base n cs = omega (arith, after_ge base n cs one) in
    rw (lt-leb (digits_value_after base n cs) max_int above) (rw (and_right (list_all (λ c. is_digit c base) cs) false refl) refl)

off : (base n c : ℕ) (cs : List ℕ) → 1 ≤ base → ((digit_value c < base) × (n * base + digit_value c ≤ max_int) → ⊥) → numeral_after base n (c ∷ cs) ≡ None
off base n c cs one bad =
    ⊎_elim
    (λ digit. on base n c cs digit ∙ too_large base (n * base + digit_value c) cs one
    (⊎_elim (λ above. above) (λ fits. absurd (bad (digit, fits))) (cases_lt max_int (n * base + digit_value c))))
    (λ other. rw (le-ltb (digit_value c) base other) refl)
    (cases_lt (digit_value c) base)

at : (base n : ℕ) (ds : List ℕ) (i : ℕ) → i < length ds → numeral_after base n (drop i ds) ≡ numeral_after base n (get_or ds i 0 ∷ drop (i + 1) ds)
at base n ds i h = let d : drop i ds ≡ get_or ds i 0 ∷ drop (i + 1) ds = rw (add-one, drop-cons ds i 0) refl in ap (numeral_after base n) d

-- the next digit is taken
pub taken : (base n : ℕ) (ds : List ℕ) (i : ℕ) → i < length ds → digit_value (get_or ds i 0) < base
    → numeral_after base n (drop i ds) ≡ numeral_after base (n * base + digit_value (get_or ds i 0)) (drop (i + 1) ds)
taken base n ds i h digit = at base n ds i h ∙ on base n (get_or ds i 0) (drop (i + 1) ds) digit

-- it is no digit of the base, or one too many
pub refused : (base n : ℕ) (ds : List ℕ) (i : ℕ) → i < length ds → 1 ≤ base
    → ((digit_value (get_or ds i 0) < base) × (n * base + digit_value (get_or ds i 0) ≤ max_int) → ⊥) → numeral_after base n (drop i ds) ≡ None
refused base n ds i h one bad = at base n ds i h ∙ off base n (get_or ds i 0) (drop (i + 1) ds) one bad

pub over : (base n : ℕ) (ds : List ℕ) → length ds ≡ 0 → n ≤ max_int → numeral_after base n ds ≡ Some n
over base n [] e fits = rw (le-leb n max_int fits) refl
over base n (c ∷ cs) e fits = absurd (omega arith)
