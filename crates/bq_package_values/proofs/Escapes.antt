-- The escape of a code point: it is ASCII, and a letter after `\` has one meaning.
use Rattle.std.proofs.Common.{◌≡◌, ◌≢◌, ◌⊎◌, ℕ, ◌+◌, ◌/◌, ◌%◌, ◌<◌, Bool, true, false, List, [], ◌∷◌, ◌++◌, Option, Some, None, refl, sym, ap, subst, ◌∙◌, ⊎_elim, arith}
use Rattle.std.specs.Prelude.{◌==◌}
use Rattle.std.specs.Char.{digit_char}
use Rattle.std.specs.Int.{is_in_range}
use Rattle.std.specs.List.{list_all}
use Rattle.std.specs.Str.{encode_utf8_all}
use Rattle.std.proofs.lemmas.Bool.{and_from, and_parts, cases_eq, cond-false, ne_eqb}
use Rattle.std.proofs.lemmas.Bool.Decides.{nat_tests}
use Rattle.std.proofs.lemmas.Str.{encode_ascii}
use Rattle.bq_package_values.specs.JsonString.{short_escape, unicode_escape, escape_by, escape}
use Rattle.bq_package_values.specs.JsonReading.{letter_meaning}

-- ASCII, and no control
abbrev pub is_printable : ℕ → Bool
is_printable c = is_in_range 0x20 0x7F c

printable_low : (c : ℕ) → is_printable c ≡ true → c < 128
printable_low c h = grind (arith, nat_tests)

-- ASCII is its own UTF-8
pub encodes_printable : (cs : List ℕ) → list_all is_printable cs ≡ true → encode_utf8_all cs ≡ cs
encodes_printable [] h = refl
encodes_printable (c ∷ cs) h =
    let both = and_parts _ _ h in
    ap (λ t. t ++ encode_utf8_all cs) (encode_ascii c (printable_low c both.0)) ∙ ap (λ t. c ∷ t) (encodes_printable cs both.1)

digit_printable : (d : ℕ) → d < 16 → is_printable (digit_char d) ≡ true
digit_printable d h = grind (arith, nat_tests)

unicode_printable : (c : ℕ) → c < 65536 → list_all is_printable (unicode_escape c) ≡ true
unicode_printable c h =
    let d3 : c / 4096 < 16 = omega arith in
    let d2 : c / 256 % 16 < 16 = omega arith in
    let d1 : c / 16 % 16 < 16 = omega arith in
    let d0 : c % 16 < 16 = omega arith in
    and_from _ _ (digit_printable _ d3) (and_from _ _ (digit_printable _ d2) (and_from _ _ (digit_printable _ d1) (and_from _ _ (digit_printable _ d0) refl)))

-- a letter after `\` that stands for this code point, and is no `u`
pub record IsShort (c letter : ℕ) : Type 0 where
  pub printable : is_printable letter ≡ true
  pub no_u : letter == 0x75 ≡ false
  pub meaning : letter_meaning letter ≡ Some c

short_at : (c letter k m : ℕ) → c ≡ k → short_escape k ≡ Some m → IsShort k m → short_escape c ≡ Some letter → IsShort c letter
short_at c letter k m e value holds has =
    let both : Some m ≡ Some letter = sym value ∙ ap short_escape (sym e) ∙ has in
    let same : m ≡ letter = cc in
    subst (λ x. IsShort x letter) (sym e) (subst (λ y. IsShort k y) same holds)

short_none : (c : ℕ) → c ≢ 0x22 → c ≢ 0x5C → c ≢ 0x08 → c ≢ 0x09 → c ≢ 0x0A → c ≢ 0x0C → c ≢ 0x0D → short_escape c ≡ None
short_none c n1 n2 n3 n4 n5 n6 n7 =
    cond-false _ _ _ (ne_eqb c _ n1) ∙ cond-false _ _ _ (ne_eqb c _ n2) ∙ cond-false _ _ _ (ne_eqb c _ n3) ∙ cond-false _ _ _ (ne_eqb c _ n4)
    ∙ cond-false _ _ _ (ne_eqb c _ n5) ∙ cond-false _ _ _ (ne_eqb c _ n6) ∙ cond-false _ _ _ (ne_eqb c _ n7)

is_short : (k m : ℕ) → is_printable m ≡ true → m == 0x75 ≡ false → letter_meaning m ≡ Some k → IsShort k m
is_short k m printable no_u meaning = record { printable = printable; no_u = no_u; meaning = meaning }

pub short_letter : (c letter : ℕ) → short_escape c ≡ Some letter → IsShort c letter
short_letter c letter has =
    ⊎_elim (λ e. short_at c letter 0x22 0x22 e refl (is_short _ _ refl refl refl) has) (λ n1.
    ⊎_elim (λ e. short_at c letter 0x5C 0x5C e refl (is_short _ _ refl refl refl) has) (λ n2.
    ⊎_elim (λ e. short_at c letter 0x08 0x62 e refl (is_short _ _ refl refl refl) has) (λ n3.
    ⊎_elim (λ e. short_at c letter 0x09 0x74 e refl (is_short _ _ refl refl refl) has) (λ n4.
    ⊎_elim (λ e. short_at c letter 0x0A 0x6E e refl (is_short _ _ refl refl refl) has) (λ n5.
    ⊎_elim (λ e. short_at c letter 0x0C 0x66 e refl (is_short _ _ refl refl refl) has) (λ n6.
    ⊎_elim (λ e. short_at c letter 0x0D 0x72 e refl (is_short _ _ refl refl refl) has) (λ n7.
    let none : None ≡ Some letter = sym (short_none c n1 n2 n3 n4 n5 n6 n7) ∙ has in cc)
    (cases_eq c 0x0D)) (cases_eq c 0x0C)) (cases_eq c 0x0A)) (cases_eq c 0x09)) (cases_eq c 0x08)) (cases_eq c 0x5C)) (cases_eq c 0x22)

escape_by_printable : (o : Option ℕ) (c : ℕ) → c < 65536 → ((l : ℕ) → o ≡ Some l → is_printable l ≡ true) → list_all is_printable (escape_by o c) ≡ true
escape_by_printable None c h letter = unicode_printable c h
escape_by_printable (Some l) c h letter = and_from _ _ (letter l refl) refl

-- an escape is ASCII, and no control
pub escape_printable : (c : ℕ) → c < 65536 → list_all is_printable (escape c) ≡ true
unfolding escape
escape_printable c h = escape_by_printable (short_escape c) c h (λ l e. (short_letter c l e).printable)

pub escape_low : (c : ℕ) → c < 65536 → encode_utf8_all (escape c) ≡ escape c
escape_low c h = encodes_printable (escape c) (escape_printable c h)
