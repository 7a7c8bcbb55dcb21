-- The bytes of words and numbers are those of the lists: below 128 they are compared one by one, and none is above.
use Rattle.std.proofs.Common.{◌≡◌, ℕ, zero, suc, ◌<◌, ◌≤◌, ◌⊎◌, inl, inr, List, [], ◌∷◌, Bool, true, false, refl, sym, ◌∙◌, subst, arith, nat_eq, nat_lt}
use Rattle.std.specs.Prelude.{◌==◌, ◌&&◌, ◌||◌, not, nat_le}
use Rattle.std.specs.List.{list_any, list_all}
use Rattle.std.proofs.lemmas.Bool.{eqb-true, leb-true}
use borrow.Author.Tests.{ltb-true, ltb-false}
use Rattle.bq_source.specs.Lexis.{is_letter, is_digit}
use Rattle.bq_source.specs.Number.{begins_number, begins_decimal, is_number_byte}
use Rattle.bq_base.proofs.Choices.{by_bool, left_of, right_of}
use Rattle.bq_source_lexer.specs.Tables.{IsIn, letters, digits, BeginsNumber, digit, dot}
use Rattle.bq_source_lexer.proofs.Rows.{is_in, in_is, numbers_alike, number_same}

abbrev same : Bool → Bool → Bool
same true b = b
same false b = not b

abbrev agree : (ℕ → Bool) → (ℕ → Bool) → ℕ → Bool
agree p q zero = true
agree p q (suc n) = same (p n) (q n) && agree p q n

alike : (a b : Bool) → same a b ≡ true → a ≡ b
alike true b h = sym h
alike false true h = cc
alike false false h = refl

agreed_at : (p q : ℕ → Bool) (b n : ℕ) → same (p n) (q n) ≡ true → b < suc n → (t : Bool) → nat_lt b n ≡ t → (b < n → p b ≡ q b) → p b ≡ q b
agreed_at p q b n h less true e below = below (ltb-true b n e)
agreed_at p q b n h less false e below =
    let le = ltb-false b n e in
    let is : n ≡ b = omega arith in
    let P : ℕ → Type 0 = λ c. p c ≡ q c in
    subst P is (alike (p n) (q n) h)

agreed : (p q : ℕ → Bool) (b n : ℕ) → agree p q n ≡ true → b < n → p b ≡ q b
agreed p q b zero h less = absurd (omega arith)
agreed p q b (suc n) h less = agreed_at p q b n (left_of (same (p n) (q n)) (agree p q n) h) less (nat_lt b n) refl (agreed p q b n (right_of (same (p n) (q n)) (agree p q n) h))

too_large : (b m n : ℕ) → n < b → m ≤ n → nat_le b m ≡ false
too_large b m n more le = elim (by_bool (nat_le b m)) [ inr t ↦ t | inl t ↦ let less = leb-true b m t in absurd (omega arith) ]

not_equal : (b c : ℕ) → c < b → (b == c) ≡ false
not_equal b c more = elim (by_bool (b == c)) [ inr t ↦ t | inl t ↦ let e = eqb-true b c t in absurd (omega arith) ]

none_of : (x y : Bool) → (x && false || y && false || false) ≡ false
none_of true true = refl
none_of true false = refl
none_of false true = refl
none_of false false = refl

no_letter : (b : ℕ) → 127 < b → is_letter b ≡ false
no_letter b more =
    let small = too_large b 122 127 more (omega arith) in
    let large = too_large b 90 127 more (omega arith) in
    let other = not_equal b 95 (omega arith) in
    rw (small, large, other) (none_of (nat_le 97 b) (nat_le 65 b))

nothing : (x : Bool) → (x && false) ≡ false
nothing true = refl
nothing false = refl

no_digit : (b : ℕ) → 127 < b → is_digit b ≡ false
no_digit b more = let none = too_large b 57 127 more (omega arith) in rw none (nothing (nat_le 48 b))

no_entry : (b : ℕ) (xs : List ℕ) → list_all (λ x. nat_lt x 128) xs ≡ true → 127 < b → list_any (nat_eq b) xs ≡ false
no_entry b [] all more = refl
no_entry b (x ∷ xs) all more =
    let small = ltb-true x 128 (left_of (nat_lt x 128) (list_all (λ y. nat_lt y 128) xs) all) in
    let other : nat_eq b x ≡ false = not_equal b x (omega arith) in
    let r = no_entry b xs (right_of (nat_lt x 128) (list_all (λ y. nat_lt y 128) xs) all) more in
    rw other r

module _ (p : ℕ → Bool) (xs : List ℕ) (below : agree p (λ b. list_any (nat_eq b) xs) 128 ≡ true) (small : list_all (λ x. nat_lt x 128) xs ≡ true)
    (above : (b : ℕ) → 127 < b → p b ≡ false) where
  decides : (b : ℕ) → p b ≡ list_any (nat_eq b) xs
  decides b = by_order (nat_lt b 128) refl
    where
      by_order : (t : Bool) → nat_lt b 128 ≡ t → p b ≡ list_any (nat_eq b) xs
      by_order true e = agreed p (λ c. list_any (nat_eq c) xs) b 128 below (ltb-true b 128 e)
      by_order false e = let le = ltb-false b 128 e in above b (omega arith) ∙ sym (no_entry b xs small (omega arith))

  of_test : (b : ℕ) → p b ≡ true → IsIn b xs
  of_test b h = is_in nat_eq numbers_alike number_same b xs (sym (decides b) ∙ h)

  of_list : (b : ℕ) → IsIn b xs → p b ≡ true
  of_list b i = decides b ∙ in_is nat_eq numbers_alike number_same b xs i

letters_agree : agree is_letter (λ b. list_any (nat_eq b) letters) 128 ≡ true
letters_agree = refl

digits_agree : agree is_digit (λ b. list_any (nat_eq b) digits) 128 ≡ true
digits_agree = refl

pub letter_found : (b : ℕ) → is_letter b ≡ true → IsIn b letters
letter_found = of_test is_letter letters letters_agree refl no_letter

pub letter_complete : (b : ℕ) → IsIn b letters → is_letter b ≡ true
letter_complete = of_list is_letter letters letters_agree refl no_letter

pub digit_found : (b : ℕ) → is_digit b ≡ true → IsIn b digits
digit_found = of_test is_digit digits digits_agree refl no_digit

pub digit_complete : (b : ℕ) → IsIn b digits → is_digit b ≡ true
digit_complete = of_list is_digit digits digits_agree refl no_digit

one_of : (x y z : Bool) → ((x || y) || z) ≡ true → (x ≡ true) ⊎ (y ≡ true) ⊎ (z ≡ true)
one_of true y z h = inl refl
one_of false true z h = inr (inl refl)
one_of false false z h = inr (inr h)

pub number_found : (b : ℕ) → is_number_byte b ≡ true → IsIn b letters ⊎ IsIn b digits ⊎ (b ≡ 46)
number_found b h = elim (one_of (is_letter b) (is_digit b) (b == 46) h) [
  | inl t ↦ inl (letter_found b t)
  | inr o ↦ elim o [ inl t ↦ inr (inl (digit_found b t)) | inr t ↦ inr (inr (eqb-true b 46 t)) ]
]

of_either : (x y z : Bool) → (x ≡ true) ⊎ (y ≡ true) ⊎ (z ≡ true) → ((x || y) || z) ≡ true
of_either true y z o = refl
of_either false true z o = refl
of_either false false true o = refl
of_either false false false (inl e) = e
of_either false false false (inr (inl e)) = e
of_either false false false (inr (inr e)) = e

pub number_complete : (b : ℕ) → IsIn b letters ⊎ IsIn b digits ⊎ (b ≡ 46) → is_number_byte b ≡ true
number_complete b (inl i) = of_either (is_letter b) (is_digit b) (b == 46) (inl (letter_complete b i))
number_complete b (inr (inl i)) = of_either (is_letter b) (is_digit b) (b == 46) (inr (inl (digit_complete b i)))
number_complete b (inr (inr e)) = of_either (is_letter b) (is_digit b) (b == 46) (inr (inr (rw e refl)))

after_dot : (bs : List ℕ) → begins_decimal bs ≡ true → BeginsNumber (46 ∷ bs)
after_dot [] h = cc
after_dot (b ∷ bs) h = dot (digit_found b h)

pub begun : (text : List ℕ) → begins_number text ≡ true → BeginsNumber text
begun [] h = cc
begun (b ∷ bs) h = elim (by_bool (is_digit b)) [
  | inl t ↦ digit (digit_found b t)
  | inr t ↦
      let both : (b == 46 && begins_decimal bs) ≡ true = rw t at h in
      let is = eqb-true b 46 (left_of (b == 46) (begins_decimal bs) both) in
      let P : ℕ → Type 0 = λ c. BeginsNumber (c ∷ bs) in
      subst P (sym is) (after_dot bs (right_of (b == 46) (begins_decimal bs) both))
]

pub begins : (text : List ℕ) → BeginsNumber text → begins_number text ≡ true
begins text (digit {b = b} {bs = bs} i) = let t = digit_complete b i in rw t refl
begins text (dot {b = b} {bs = bs} i) = digit_complete b i
