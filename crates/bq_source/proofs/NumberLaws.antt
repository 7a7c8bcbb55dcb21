-- The laws of numbers, in words of the text.
use Rattle.std.proofs.Common.{◌≡◌, ◌≢◌, ℕ, zero, suc, ◌+◌, ◌*◌, ◌/◌, ◌%◌, ◌^◌, ◌<◌, ◌≤◌, ◌⊎◌, inl, inr, ⊎_elim, List, [], ◌∷◌, ◌++◌, Bool, true, false, ◌&&◌, ◌||◌, eqb, leb, ltb, cond, Option, Some, None, length, refl, sym, ap, ◌∙◌, subst, arith, decimal}
use Rattle.std.specs.Char.{digit_value, is_digit}
use Rattle.std.specs.List.{list_all}
use Rattle.std.specs.Str.Parse.{digits_value, IsNumeral, AllDigits}
use Rattle.std.proofs.lemmas.Int.Digits.{digits_value_push}
use Rattle.std.proofs.lemmas.Fmt.{decimal_is_IsNumeral, decimal_by_steps}
use Rattle.std.proofs.lemmas.Bool.{lt-ltb, le-leb, ltb-true, leb-true, eqb-true, eqb-false, ne_eqb, and_parts, and_from, or_cases}
use Rattle.bq_source.specs.Number.{max_int, numeral_value, after_zero, int_value, IsInt, zero_digit, decimal_digits, hexadecimal, octal}

pub pushed : (base c : ℕ) (digits : List ℕ) → digits_value base (digits ++ c ∷ []) ≡ base * digits_value base digits + digit_value c
pushed base c digits = let e = digits_value_push base digits c in omega (arith, e)

all_digits : (base : ℕ) (ds : List ℕ) → AllDigits base ds → list_all (λ c. is_digit c base) ds ≡ true
all_digits base [] h = refl
all_digits base (c ∷ cs) (first, later) = and_from (ltb (digit_value c) base) (list_all (λ c. is_digit c base) cs) (lt-ltb (digit_value c) base first) (all_digits base cs later)

digits_all : (base : ℕ) (ds : List ℕ) → list_all (λ c. is_digit c base) ds ≡ true → AllDigits base ds
digits_all base [] e = tt
digits_all base (c ∷ cs) e =
    let parts = and_parts (ltb (digit_value c) base) (list_all (λ c. is_digit c base) cs) e in
    (ltb-true (digit_value c) base parts.0, digits_all base cs parts.1)

choose : (test : Bool) (n : ℕ) → test ≡ true → cond test (Some n) None ≡ Some n
choose test n e = rw e refl

chosen : (test : Bool) (n m : ℕ) → cond test (Some n) None ≡ Some m → (test ≡ true) × (n ≡ m)
chosen true n m e = (refl, let f : n ≡ m = cc in f)
chosen false n m e = cc

-- digits of a base, one at least, have their value
pub numeral : (base : ℕ) (ds : List ℕ) → IsNumeral base ds → digits_value base ds ≤ max_int → numeral_value base ds ≡ Some (digits_value base ds)
unfolding numeral_value
numeral base [] (some, h) fits = absurd (omega arith)
numeral base (c ∷ cs) (some, h) fits =
    choose (list_all (λ c. is_digit c base) (c ∷ cs) && leb (digits_value base (c ∷ cs)) max_int) (digits_value base (c ∷ cs))
    (and_from (list_all (λ c. is_digit c base) (c ∷ cs)) (leb (digits_value base (c ∷ cs)) max_int) (all_digits base (c ∷ cs) h) (le-leb (digits_value base (c ∷ cs)) max_int fits))

-- and nothing else has
record Numeral (base : ℕ) (ds : List ℕ) (n : ℕ) : Type 0 where
  pub digits : IsNumeral base ds
  pub value : digits_value base ds ≡ n
  pub fits : n ≤ max_int

numeral_of : (base : ℕ) (ds : List ℕ) (n : ℕ) → numeral_value base ds ≡ Some n → Numeral base ds n
unfolding numeral_value
numeral_of base [] n e = cc
numeral_of base (c ∷ cs) n e =
    let test = chosen (list_all (λ c. is_digit c base) (c ∷ cs) && leb (digits_value base (c ∷ cs)) max_int) (digits_value base (c ∷ cs)) n e in
    let parts = and_parts (list_all (λ c. is_digit c base) (c ∷ cs)) (leb (digits_value base (c ∷ cs)) max_int) test.0 in
    let most : digits_value base (c ∷ cs) ≤ max_int = leb-true (digits_value base (c ∷ cs)) max_int parts.1 in
    let P : ℕ → Type 0 = λ m. m ≤ max_int in
    record { digits = (let one : 0 < suc (length cs) = omega arith in one, digits_all base (c ∷ cs) parts.0); value = test.1; fits = subst P test.1 most }

abbrev Found : List ℕ → ℕ → Type 0
Found s n = IsInt s n × (n ≤ max_int)

found_hexadecimal : (x : ℕ) (ds : List ℕ) (n : ℕ) → (x ≡ 120) ⊎ (x ≡ 88) → Numeral 16 ds n → Found (48 ∷ x ∷ ds) n
found_hexadecimal x ds n mark h = let P : ℕ → Type 0 = IsInt (48 ∷ x ∷ ds) in (subst P h.value (hexadecimal mark h.digits), h.fits)

found_octal : (o : ℕ) (ds : List ℕ) (n : ℕ) → (o ≡ 111) ⊎ (o ≡ 79) → Numeral 8 ds n → Found (48 ∷ o ∷ ds) n
found_octal o ds n mark h = let P : ℕ → Type 0 = IsInt (48 ∷ o ∷ ds) in (subst P h.value (octal mark h.digits), h.fits)

found_decimal : (c : ℕ) (cs : List ℕ) (n : ℕ) → c ≢ 48 → Numeral 10 (c ∷ cs) n → Found (c ∷ cs) n
found_decimal c cs n other h = let P : ℕ → Type 0 = IsInt (c ∷ cs) in (subst P h.value (decimal_digits other h.digits), h.fits)

two_marks : (x a b : ℕ) → (eqb x a || eqb x b) ≡ true → (x ≡ a) ⊎ (x ≡ b)
two_marks x a b e = ⊎_elim (λ h. inl (eqb-true x a h)) (λ h. inr (eqb-true x b h)) (or_cases (eqb x a) (eqb x b) e)

found_marked : (x : ℕ) (ds : List ℕ) (n : ℕ) (h o : Bool) → (eqb x 120 || eqb x 88) ≡ h → (eqb x 111 || eqb x 79) ≡ o
    → cond h (numeral_value 16 ds) (cond o (numeral_value 8 ds) None) ≡ Some n → Found (48 ∷ x ∷ ds) n
found_marked x ds n true o e f g = found_hexadecimal x ds n (two_marks x 120 88 e) (numeral_of 16 ds n g)
found_marked x ds n false true e f g = found_octal x ds n (two_marks x 111 79 f) (numeral_of 8 ds n g)
found_marked x ds n false false e f g = cc

found_zero : (bs : List ℕ) (n : ℕ) → after_zero bs ≡ Some n → Found (48 ∷ bs) n
found_zero [] n e =
    let zero_is : 0 ≡ n = cc in
    let P : ℕ → Type 0 = Found (48 ∷ []) in
    subst P zero_is (zero_digit, omega arith)
found_zero (x ∷ ds) n e = found_marked x ds n (eqb x 120 || eqb x 88) (eqb x 111 || eqb x 79) refl refl e

found_by : (b : ℕ) (bs : List ℕ) (n : ℕ) (z : Bool) → eqb b 48 ≡ z → cond z (after_zero bs) (numeral_value 10 (b ∷ bs)) ≡ Some n → Found (b ∷ bs) n
found_by b bs n true e f = let P : ℕ → Type 0 = λ x. Found (x ∷ bs) n in subst P (sym (eqb-true b 48 e)) (found_zero bs n f)
found_by b bs n false e f = found_decimal b bs n (eqb-false b 48 e) (numeral_of 10 (b ∷ bs) n f)

pub found : (s : List ℕ) (n : ℕ) → int_value s ≡ Some n → Found s n
unfolding int_value
found [] n e = cc
found (b ∷ bs) n e = found_by b bs n (eqb b 48) refl e

choose_decimal : (z : Bool) (x y : Option ℕ) → z ≡ false → cond z x y ≡ y
choose_decimal z x y e = rw e refl

decimal_value : (c : ℕ) (cs : List ℕ) → c ≢ 48 → int_value (c ∷ cs) ≡ numeral_value 10 (c ∷ cs)
unfolding int_value
decimal_value c cs other = choose_decimal (eqb c 48) (after_zero cs) (numeral_value 10 (c ∷ cs)) (ne_eqb c 48 other)

hexadecimal_value : (x : ℕ) (ds : List ℕ) → (x ≡ 120) ⊎ (x ≡ 88) → int_value (48 ∷ x ∷ ds) ≡ numeral_value 16 ds
unfolding int_value
hexadecimal_value x ds (inl e) = rw e refl
hexadecimal_value x ds (inr e) = rw e refl

octal_value : (x : ℕ) (ds : List ℕ) → (x ≡ 111) ⊎ (x ≡ 79) → int_value (48 ∷ x ∷ ds) ≡ numeral_value 8 ds
unfolding int_value
octal_value x ds (inl e) = rw e refl
octal_value x ds (inr e) = rw e refl

zero_value : int_value (48 ∷ []) ≡ Some 0
unfolding int_value
zero_value = refl

pub complete : (s : List ℕ) (n : ℕ) → IsInt s n → n ≤ max_int → int_value s ≡ Some n
complete s n zero_digit fits = zero_value
complete s n (decimal_digits {c = c} {cs = cs} other digits) fits = decimal_value c cs other ∙ numeral 10 (c ∷ cs) digits fits
complete s n (hexadecimal {x = x} {digits = ds} mark digits) fits = hexadecimal_value x ds mark ∙ numeral 16 ds digits fits
complete s n (octal {o = o} {digits = ds} mark digits) fits = octal_value o ds mark ∙ numeral 8 ds digits fits

-- the decimal text of a number is `0`, or doesn't begin with it
Leading : ℕ → List ℕ → Type 0
Leading n ds = ((n ≡ 0) × (ds ≡ 48 ∷ [])) ⊎ ((c : ℕ) × ((cs : List ℕ) × ((ds ≡ c ∷ cs) × (c ≢ 48))))

leading_digit : (n : ℕ) → n < 10 → Leading n ((48 + n) ∷ [])
unfolding Leading
leading_digit zero h = inl (refl, refl)
leading_digit (suc n) h = inr (48 + suc n, ([], (refl, λ e. let bad : ⊥ = omega arith in bad)))

leading_more : (n : ℕ) (ds : List ℕ) → 10 ≤ n → Leading (n / 10) ds → Leading n (ds ++ ((48 + n % 10) ∷ []))
unfolding Leading
leading_more n ds h (inl (none, e)) = absurd (omega arith)
leading_more n ds h (inr (c, (cs, (e, other)))) = inr (c, (cs ++ ((48 + n % 10) ∷ []), (ap (λ xs. xs ++ ((48 + n % 10) ∷ [])) e, other)))

leading : (n : ℕ) → n < 2 ^ 64 → Leading n (decimal n)
leading n h = decimal_by_steps Leading leading_digit leading_more n h

reads_by : (n : ℕ) → n ≤ max_int → Leading n (decimal n) → int_value (decimal n) ≡ Some n
unfolding Leading
reads_by n fits (inl (none, e)) = ap int_value e ∙ zero_value ∙ ap Some (sym none)
reads_by n fits (inr (c, (cs, (e, other)))) =
    let small : n < 2 ^ 64 = omega arith in
    let (digits, value) = decimal_is_IsNumeral n small in
    let P : List ℕ → Type 0 = λ ds. IsNumeral 10 ds × (digits_value 10 ds ≡ n) in
    let (digits_, value_) = subst P e (digits, value) in
    let R : ℕ → Type 0 = λ m. IsInt (c ∷ cs) m in
    ap int_value e ∙ complete (c ∷ cs) n (subst R value_ (decimal_digits other digits_)) fits

pub reads_back : (n : ℕ) → n ≤ max_int → int_value (decimal n) ≡ Some n
reads_back n fits = let small : n < 2 ^ 64 = omega arith in reads_by n fits (leading n small)
