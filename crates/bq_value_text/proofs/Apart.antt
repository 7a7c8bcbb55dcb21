-- Keys with one text are one key: the text of a key ends where it must.
use Rattle.std.proofs.Common.{◌≡◌, ◌≢◌, ◌∙◌, ◌<◌, ◌^◌, ◌⊎◌, inl, inr, ℕ, suc, ℤ, pos, negsuc, true, false, List, [], ◌∷◌, ◌++◌, Option, Some, None, Ok, length, refl, sym, ap, subst, arith, append_assoc}
use Rattle.std.specs.Prelude.{nat_eq, ◌↔◌}
use Rattle.std.specs.Map.{lookup}
use Rattle.std.specs.Int.Signed.{mag}
use Rattle.std.specs.Fmt.{decimal, signed_decimal}
use Rattle.std.specs.Char.{digit_value}
use Rattle.std.specs.Str.Parse.{AllDigits}
use Rattle.std.proofs.lemmas.Fmt.{decimal_is_IsNumeral, decimal_nonempty, signed_decimal_injective}
use Rattle.bq_source.specs.StringLiteral.{quoted, quoted_body, quoted_byte, quoted_escapes, string_value}
use Rattle.bq_source.proofs.Cases.{quoted_byte_by}
use Rattle.bq_source.proofs.Quoted.{reads_back}
use Rattle.bq_value.specs.Datum.{Datum, none, boolean, int, string, tuple, Data, end, datum}
use Rattle.bq_value.specs.Cells.{StoreView}
use Rattle.bq_value_text.specs.Laws.{IsKeyInRange, AreKeysInRange}
use Rattle.bq_value_text.specs.Shown.{repr_of}
use Rattle.bq_value_text.proofs.KeyTexts.{key_text, inside, behind_first, behind, repr_is}

abbrev head : List ℕ → ℕ
head [] = 0
head (b ∷ bs) = b

abbrev tail : List ℕ → List ℕ
tail [] = []
tail (b ∷ bs) = bs

-- what may come after a key: nothing, a comma, or a closing bracket
abbrev ComesAfter : List ℕ → Type 0
ComesAfter [] = Unit {0}
ComesAfter (b ∷ bs) = (b ≡ 44) ⊎ (b ≡ 41)

abbrev IsDigit : ℕ → Type 0
IsDigit b = digit_value b < 10

-- none of it goes on with a number's digits
no_digit : (r : List ℕ) (b : ℕ) (bs : List ℕ) → ComesAfter r → IsDigit b → r ≡ b ∷ bs → ⊥
no_digit [] b bs f d e = cc
no_digit (a ∷ rest) b bs (inl is) d e = let bad : IsDigit 44 = subst IsDigit (sym (ap head e) ∙ is) d in omega (arith, bad)
no_digit (a ∷ rest) b bs (inr is) d e = let bad : IsDigit 41 = subst IsDigit (sym (ap head e) ∙ is) d in omega (arith, bad)

one_number : (xs ys r s : List ℕ) → AllDigits 10 xs → AllDigits 10 ys → ComesAfter r → ComesAfter s → xs ++ r ≡ ys ++ s → (xs ≡ ys) × (r ≡ s)
one_number [] [] r s p q f g e = (refl, e)
one_number [] (y ∷ ys) r s p q f g e = absurd (no_digit r y (ys ++ s) f q.0 e)
one_number (x ∷ xs) [] r s p q f g e = absurd (no_digit s x (xs ++ r) g p.0 (sym e))
one_number (x ∷ xs) (y ∷ ys) r s p q f g e = let z = one_number xs ys r s p.1 q.1 f g (ap tail e) in ((λ i. ap head e i ∷ z.0 i), z.1)

first_digit : (ds : List ℕ) → AllDigits 10 ds → 0 < length ds → (r : List ℕ) (b : ℕ) (t : List ℕ) → (IsDigit b → ⊥) → ds ++ r ≡ b ∷ t → ⊥
first_digit [] all n r b t never e = omega (arith, n)
first_digit (d ∷ ds) all n r b t never e = never (subst IsDigit (ap head e) all.0)

digits : (n : ℕ) → n < 2 ^ 64 → AllDigits 10 (decimal n)
digits n h = (decimal_is_IsNumeral n h).0.1

-- a number begins with a digit or a minus
not_int : (i : ℤ) → mag i < 2 ^ 63 → (r : List ℕ) (b : ℕ) (t : List ℕ) → (IsDigit b → ⊥) → (45 ≡ b → ⊥) → signed_decimal i ++ r ≡ b ∷ t → ⊥
not_int (pos n) h r b t never minus e = let k : n < 2 ^ 64 = omega (arith, h) in first_digit (decimal n) (digits n k) (decimal_nonempty n k) r b t never e
not_int (negsuc n) h r b t never minus e = minus (ap head e)

no_minus : IsDigit 45 → ⊥
no_minus d = omega (arith, d)

one_int : (a b : ℤ) → mag a < 2 ^ 63 → mag b < 2 ^ 63 → (r s : List ℕ) → ComesAfter r → ComesAfter s → signed_decimal a ++ r ≡ signed_decimal b ++ s → (a ≡ b) × (r ≡ s)
one_int (pos m) (pos n) h k r s f g e =
    let z = one_number (decimal m) (decimal n) r s (digits m (omega (arith, h))) (digits n (omega (arith, k))) f g e in
    (signed_decimal_injective (pos m) (pos n) h k z.0, z.1)
one_int (negsuc m) (negsuc n) h k r s f g e =
    let z = one_number (decimal (suc m)) (decimal (suc n)) r s (digits (suc m) (omega (arith, h))) (digits (suc n) (omega (arith, k))) f g (ap tail e) in
    (signed_decimal_injective (negsuc m) (negsuc n) h k (ap (λ (ds : List ℕ). 45 ∷ ds) z.0), z.1)
one_int (pos m) (negsuc n) h k r s f g e =
    let w : m < 2 ^ 64 = omega (arith, h) in absurd (first_digit (decimal m) (digits m w) (decimal_nonempty m w) r 45 _ no_minus e)
one_int (negsuc m) (pos n) h k r s f g e =
    let w : n < 2 ^ 64 = omega (arith, k) in absurd (first_digit (decimal n) (digits n w) (decimal_nonempty n w) s 45 _ no_minus (sym e))

abbrev Escape : ℕ → Option ℕ → Type 0
Escape b o = lookup (nat_eq b) quoted_escapes ≡ o

no_backslash : (b : ℕ) → Escape b None → b ≢ 92
no_backslash b e f = let bad = subst (λ (c : ℕ). Escape c None) f e in cc

no_quote : (b : ℕ) → Escape b None → b ≢ 34
no_quote b e f = let bad = subst (λ (c : ℕ). Escape c None) f e in cc

some_same : (a b : List ℕ) → Some a ≡ Some b → a ≡ b
some_same a b e = cc

-- a byte has a spelling of its own, since each spelling reads back
one_spelling : (x y : ℕ) → quoted_byte x ≡ quoted_byte y → x ≡ y
unfolding quoted
one_spelling x y e =
    let spelled : quoted (x ∷ []) ≡ quoted (y ∷ []) = ap (λ (c : List ℕ). 34 ∷ ((c ++ []) ++ 34 ∷ [])) e in
    ap head (some_same (x ∷ []) (y ∷ []) (sym (reads_back (x ∷ [])) ∙ (ap string_value spelled ∙ reads_back (y ∷ []))))

one_byte_by : (x y : ℕ) (o u : Option ℕ) → Escape x o → Escape y u → (r s : List ℕ) → quoted_byte_by x o ++ r ≡ quoted_byte_by y u ++ s → (x ≡ y) × (r ≡ s)
one_byte_by x y None None p q r s e = (ap head e, ap tail e)
one_byte_by x y None (Some d) p q r s e = absurd (no_backslash x p (ap head e))
one_byte_by x y (Some c) None p q r s e = absurd (no_backslash y q (sym (ap head e)))
one_byte_by x y (Some c) (Some d) p q r s e =
    let code : c ≡ d = ap (λ (xs : List ℕ). head (tail xs)) e in
    let spelled : quoted_byte x ≡ quoted_byte y = ap (quoted_byte_by x) p ∙ (ap (λ (b : ℕ). 92 ∷ b ∷ []) code ∙ sym (ap (quoted_byte_by y) q)) in
    (one_spelling x y spelled, ap (λ (xs : List ℕ). tail (tail xs)) e)

no_end_by : (b : ℕ) (o : Option ℕ) → Escape b o → (r s : List ℕ) → 34 ∷ r ≡ quoted_byte_by b o ++ s → ⊥
no_end_by b None p r s e = no_quote b p (sym (ap head e))
no_end_by b (Some c) p r s e = omega (arith, ap head e)

-- the closing quote is where it must be
one_body : (a b r s : List ℕ) → quoted_body a ++ 34 ∷ r ≡ quoted_body b ++ 34 ∷ s → (a ≡ b) × (r ≡ s)
one_body [] [] r s e = (refl, ap tail e)
one_body [] (y ∷ b) r s e = absurd (no_end_by y (lookup (nat_eq y) quoted_escapes) refl r (quoted_body b ++ 34 ∷ s) (e ∙ append_assoc (quoted_byte y) (quoted_body b) (34 ∷ s)))
one_body (x ∷ a) [] r s e = absurd (no_end_by x (lookup (nat_eq x) quoted_escapes) refl s (quoted_body a ++ 34 ∷ r) (sym e ∙ append_assoc (quoted_byte x) (quoted_body a) (34 ∷ r)))
one_body (x ∷ a) (y ∷ b) r s e =
    let first = one_byte_by x y (lookup (nat_eq x) quoted_escapes) (lookup (nat_eq y) quoted_escapes) refl refl (quoted_body a ++ 34 ∷ r) (quoted_body b ++ 34 ∷ s)
    (sym (append_assoc (quoted_byte x) (quoted_body a) (34 ∷ r)) ∙ (e ∙ append_assoc (quoted_byte y) (quoted_body b) (34 ∷ s))) in
    let rest = one_body a b r s first.1 in
    ((λ i. first.0 i ∷ rest.0 i), rest.1)

one_string : (a b r s : List ℕ) → quoted a ++ r ≡ quoted b ++ s → (a ≡ b) × (r ≡ s)
unfolding quoted
one_string a b r s e = one_body a b r s (sym (append_assoc (quoted_body a) (34 ∷ []) r) ∙ (ap tail e ∙ append_assoc (quoted_body b) (34 ∷ []) s))

-- a string begins with a quote
opened : (bytes rest : List ℕ) → quoted bytes ++ rest ≡ 34 ∷ tail (quoted bytes ++ rest)
unfolding quoted
opened bytes rest = refl

-- no key begins with a closing bracket
not_closing : (v : Datum) → IsKeyInRange v → (r t : List ℕ) → key_text v ++ r ≡ 41 ∷ t → ⊥
unfolding quoted
not_closing none p r t e = omega (arith, ap head e)
not_closing (boolean true) p r t e = omega (arith, ap head e)
not_closing (boolean false) p r t e = omega (arith, ap head e)
not_closing (int i) p r t e = not_int i p r 41 t (λ d. omega (arith, d)) (λ d. omega (arith, d)) e
not_closing (string bytes) p r t e = omega (arith, ap head e)
not_closing (tuple vs) p r t e = omega (arith, ap head e)
not_closing _ p r t e = p

after_first : (vs : Data) (r : List ℕ) → ComesAfter (behind_first vs ++ r)
after_first end r = inl refl
after_first (datum v vs) r = inl refl

after_later : (vs : Data) (r : List ℕ) → ComesAfter (behind vs ++ r)
after_later end r = inr refl
after_later (datum v vs) r = inl refl

-- two values of tuples, with what comes after them
regrouped : (v w : Datum) (xs ys r s : List ℕ) → (key_text v ++ xs) ++ r ≡ (key_text w ++ ys) ++ s → key_text v ++ (xs ++ r) ≡ key_text w ++ (ys ++ s)
regrouped v w xs ys r s e = sym (append_assoc (key_text v) xs r) ∙ (e ∙ append_assoc (key_text w) ys s)

mutual
  one_key : (v w : Datum) → IsKeyInRange v → IsKeyInRange w → (r s : List ℕ) → ComesAfter r → ComesAfter s → key_text v ++ r ≡ key_text w ++ s → (v ≡ w) × (r ≡ s)
  one_key none none p q r s f g e = (refl, ap (λ (xs : List ℕ). tail (tail (tail (tail xs)))) e)
  one_key none (boolean true) p q r s f g e = absurd (omega (arith, ap head e))
  one_key none (boolean false) p q r s f g e = absurd (omega (arith, ap head e))
  one_key none (int b) p q r s f g e = absurd (not_int b q s 78 _ (λ d. omega (arith, d)) (λ d. omega (arith, d)) (sym e))
  one_key none (string b) p q r s f g e = absurd (omega (arith, ap head (e ∙ opened b s)))
  one_key none (tuple b) p q r s f g e = absurd (omega (arith, ap head e))
  one_key (boolean true) none p q r s f g e = absurd (omega (arith, ap head e))
  one_key (boolean true) (boolean true) p q r s f g e = (refl, ap (λ (xs : List ℕ). tail (tail (tail (tail xs)))) e)
  one_key (boolean true) (boolean false) p q r s f g e = absurd (omega (arith, ap head e))
  one_key (boolean true) (int b) p q r s f g e = absurd (not_int b q s 84 _ (λ d. omega (arith, d)) (λ d. omega (arith, d)) (sym e))
  one_key (boolean true) (string b) p q r s f g e = absurd (omega (arith, ap head (e ∙ opened b s)))
  one_key (boolean true) (tuple b) p q r s f g e = absurd (omega (arith, ap head e))
  one_key (boolean false) none p q r s f g e = absurd (omega (arith, ap head e))
  one_key (boolean false) (boolean true) p q r s f g e = absurd (omega (arith, ap head e))
  one_key (boolean false) (boolean false) p q r s f g e = (refl, ap (λ (xs : List ℕ). tail (tail (tail (tail (tail xs))))) e)
  one_key (boolean false) (int b) p q r s f g e = absurd (not_int b q s 70 _ (λ d. omega (arith, d)) (λ d. omega (arith, d)) (sym e))
  one_key (boolean false) (string b) p q r s f g e = absurd (omega (arith, ap head (e ∙ opened b s)))
  one_key (boolean false) (tuple b) p q r s f g e = absurd (omega (arith, ap head e))
  one_key (int a) none p q r s f g e = absurd (not_int a p r 78 _ (λ d. omega (arith, d)) (λ d. omega (arith, d)) e)
  one_key (int a) (boolean true) p q r s f g e = absurd (not_int a p r 84 _ (λ d. omega (arith, d)) (λ d. omega (arith, d)) e)
  one_key (int a) (boolean false) p q r s f g e = absurd (not_int a p r 70 _ (λ d. omega (arith, d)) (λ d. omega (arith, d)) e)
  one_key (int a) (int b) p q r s f g e = let z = one_int a b p q r s f g e in (ap int z.0, z.1)
  one_key (int a) (string b) p q r s f g e = absurd (not_int a p r 34 _ (λ d. omega (arith, d)) (λ d. omega (arith, d)) (e ∙ opened b s))
  one_key (int a) (tuple b) p q r s f g e = absurd (not_int a p r 40 _ (λ d. omega (arith, d)) (λ d. omega (arith, d)) e)
  one_key (string a) none p q r s f g e = absurd (omega (arith, ap head (sym e ∙ opened a r)))
  one_key (string a) (boolean true) p q r s f g e = absurd (omega (arith, ap head (sym e ∙ opened a r)))
  one_key (string a) (boolean false) p q r s f g e = absurd (omega (arith, ap head (sym e ∙ opened a r)))
  one_key (string a) (int b) p q r s f g e = absurd (not_int b q s 34 _ (λ d. omega (arith, d)) (λ d. omega (arith, d)) (sym e ∙ opened a r))
  one_key (string a) (string b) p q r s f g e = let z = one_string a b r s e in (ap string z.0, z.1)
  one_key (string a) (tuple b) p q r s f g e = absurd (omega (arith, ap head (sym e ∙ opened a r)))
  one_key (tuple a) none p q r s f g e = absurd (omega (arith, ap head e))
  one_key (tuple a) (boolean true) p q r s f g e = absurd (omega (arith, ap head e))
  one_key (tuple a) (boolean false) p q r s f g e = absurd (omega (arith, ap head e))
  one_key (tuple a) (int b) p q r s f g e = absurd (not_int b q s 40 _ (λ d. omega (arith, d)) (λ d. omega (arith, d)) (sym e))
  one_key (tuple a) (string b) p q r s f g e = absurd (omega (arith, ap head (e ∙ opened b s)))
  one_key (tuple a) (tuple b) p q r s f g e = let z = one_inside a b p q r s (ap tail e) in (ap tuple z.0, z.1)
  one_key none _ p q r s f g e = absurd q
  one_key (boolean true) _ p q r s f g e = absurd q
  one_key (boolean false) _ p q r s f g e = absurd q
  one_key (int a) _ p q r s f g e = absurd q
  one_key (string a) _ p q r s f g e = absurd q
  one_key (tuple a) _ p q r s f g e = absurd q
  one_key _ w p q r s f g e = absurd p

  one_inside : (a b : Data) → AreKeysInRange a → AreKeysInRange b → (r s : List ℕ) → inside a ++ r ≡ inside b ++ s → (a ≡ b) × (r ≡ s)
  one_inside end end p q r s e = (refl, ap tail e)
  one_inside end (datum w ws) p q r s e = absurd (not_closing w q.0 (behind_first ws ++ s) r (sym (e ∙ append_assoc (key_text w) (behind_first ws) s)))
  one_inside (datum v vs) end p q r s e = absurd (not_closing v p.0 (behind_first vs ++ r) s (sym (append_assoc (key_text v) (behind_first vs) r) ∙ e))
  one_inside (datum v vs) (datum w ws) p q r s e =
      let z = one_key v w p.0 q.0 (behind_first vs ++ r) (behind_first ws ++ s) (after_first vs r) (after_first ws s) (regrouped v w (behind_first vs) (behind_first ws) r s e) in
      let y = one_first vs ws p.1 q.1 r s z.1 in
      ((λ i. datum (z.0 i) (y.0 i)), y.1)

  one_first : (a b : Data) → AreKeysInRange a → AreKeysInRange b → (r s : List ℕ) → behind_first a ++ r ≡ behind_first b ++ s → (a ≡ b) × (r ≡ s)
  one_first end end p q r s e = (refl, ap (λ (xs : List ℕ). tail (tail xs)) e)
  one_first end (datum w ws) p q r s e = absurd (omega (arith, ap (λ (xs : List ℕ). head (tail xs)) e))
  one_first (datum v vs) end p q r s e = absurd (omega (arith, ap (λ (xs : List ℕ). head (tail xs)) e))
  one_first (datum v vs) (datum w ws) p q r s e =
      let z = one_key v w p.0 q.0 (behind vs ++ r) (behind ws ++ s) (after_later vs r) (after_later ws s) (regrouped v w (behind vs) (behind ws) r s (ap (λ (xs : List ℕ). tail (tail xs)) e)) in
      let y = one_behind vs ws p.1 q.1 r s z.1 in
      ((λ i. datum (z.0 i) (y.0 i)), y.1)

  one_behind : (a b : Data) → AreKeysInRange a → AreKeysInRange b → (r s : List ℕ) → behind a ++ r ≡ behind b ++ s → (a ≡ b) × (r ≡ s)
  one_behind end end p q r s e = (refl, ap tail e)
  one_behind end (datum w ws) p q r s e = absurd (omega (arith, ap head e))
  one_behind (datum v vs) end p q r s e = absurd (omega (arith, ap head e))
  one_behind (datum v vs) (datum w ws) p q r s e =
      let z = one_key v w p.0 q.0 (behind vs ++ r) (behind ws ++ s) (after_later vs r) (after_later ws s) (regrouped v w (behind vs) (behind ws) r s (ap (λ (xs : List ℕ). tail (tail xs)) e)) in
      let y = one_behind vs ws p.1 q.1 r s z.1 in
      ((λ i. datum (z.0 i) (y.0 i)), y.1)

pub keys_apart : (s : StoreView) (n m k j : ℕ) (v w : Datum) (t u : List ℕ) → IsKeyInRange v → IsKeyInRange w → repr_of s n v ≡ Ok (t, m) → repr_of s k w ≡ Ok (u, j) → (t ≡ u) ↔ (v ≡ w)
keys_apart s n m k j v w t u p q d e =
    let a = repr_is s n m v t p d in
    let b = repr_is s k j w u q e in
    ((λ z. (one_key v w p q [] [] tt tt (ap (λ (x : List ℕ). x ++ []) (sym a ∙ (z ∙ b)))).0), λ z. a ∙ (ap key_text z ∙ sym b))
