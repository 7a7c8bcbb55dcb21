-- A piece takes a byte at least, and no more than there are.
use Rattle.std.proofs.Common.{◌≡◌, ℕ, zero, suc, ◌+◌, ◌<◌, ◌≤◌, inl, inr, List, [], ◌∷◌, ◌++◌, length, take, drop, Bool, true, false, cond, Option, Some, None, refl, sym, ap, ◌∙◌, subst, arith, nat_eq, nat_lt, length-append}
use borrow.Author.Tests.{ltb-true}
use Rattle.std.specs.Prelude.{◌==◌, ◌&&◌, ◌||◌, not, option_map, is_some}
use Rattle.std.specs.List.{prefix_len, starts_with}
use Rattle.std.proofs.lemmas.List.{length-drop}
use Rattle.std.proofs.lemmas.List.Sums.{prefix_len-le-length, count_by-le-length}
use Rattle.std.proofs.lemmas.Bool.{eqb-true}
use Rattle.std.proofs.lemmas.Bool.Decides.{Decides-eqb}
use Rattle.std.proofs.lemmas.Slice.Eq.{starts_is}
use Rattle.bq_source.specs.declared.lexis.RunClass.TheVariants.{Blank, Word}
use Rattle.bq_source.specs.declared.operators.Lexeme.{Lexeme}
use Rattle.bq_source.specs.declared.piece.Piece.{Piece}
use Rattle.bq_source.specs.declared.piece.Piece.TheVariants.{Lexed}
use Rattle.bq_source.specs.declared.operators.Lexeme.TheVariants.{Plain}
use Rattle.bq_source.specs.declared.token.TokenKind.TheVariants as k
use Rattle.bq_source.specs.declared.string_literal.Quoting.{Quoting}
use Rattle.bq_source.specs.declared.string_literal.StringLiteral.{StringLiteral}
use Rattle.bq_source.specs.declared.string_literal.BodyPart.{BodyPart}
use Rattle.bq_source.specs.declared.string_literal.BodyPart.TheVariants.{Closing, Unclosed, Item}
use Rattle.bq_source.specs.Lexis.{has, is_blank, is_letter, is_word, is_digit, newlines, begins_with, newline_len, comment_len}
use Rattle.bq_source.specs.Operators.{operators, first_spelled, with_len, operator}
use Rattle.bq_source.specs.Number.{begins_number, begins_decimal, number_len, is_number_byte, int_value}
use Rattle.bq_source.specs.StringLiteral.{opening, quotes_len, opening_len, closes, begins, begins_pair, after_backslash_by, plain_by, body_part, BodyItem, item_value, items, spelling, literal_from, begins_string, scan_string}
use Rattle.bq_source.proofs.Cases.{items_by, string_by, escapes_by, mark_by}
use Rattle.bq_source.specs.PlainString.{IsPlainString}
use Rattle.bq_source.specs.Piece.{bytes, word, number, string, mark, joined, next_piece, IsPart, Fits}
use Rattle.bq_base.proofs.Choices.{by_test, by_bool, above_zero, left_of, right_of}
use Rattle.bq_source.proofs.Items.{scanned, not_opened}

run_part : (p : ℕ → Bool) (b : ℕ) (bs : List ℕ) → p b ≡ true → IsPart (b ∷ bs) (bytes (prefix_len p (b ∷ bs)))
run_part p b bs h = record {
  some = rw h (omega arith);
  within = prefix_len-le-length p (b ∷ bs);
  lines = omega arith;
}

pub letter_is_word : (b : ℕ) → is_letter b ≡ true → is_word b ≡ true
letter_is_word b h = rw h refl

begun_some : (b : ℕ) (bs : List ℕ) → begins_with b bs ≡ true → 0 < length bs
begun_some b [] h = cc
begun_some b (c ∷ cs) h = omega arith

pub newline_within : (bs : List ℕ) → newline_len bs ≤ length bs
newline_within [] = omega arith
newline_within (b ∷ bs) =
    by_test (λ n. n ≤ length (b ∷ bs)) (b == 10) _ _ (λ t. omega arith) (λ t.
    by_test (λ n. n ≤ length (b ∷ bs)) (b == 13 && begins_with 10 bs) _ _ (λ u. let some = begun_some 10 bs (right_of (b == 13) (begins_with 10 bs) u) in omega arith) (λ u. omega arith))

pub comment_within : (bs : List ℕ) → comment_len bs ≤ length bs
comment_within [] = omega arith
comment_within (b ∷ bs) = by_test (λ n. n ≤ length (b ∷ bs)) (newline_len (b ∷ bs) == 0) _ _ (λ t. let r = comment_within bs in omega arith) (λ t. omega arith)

comment_part : (b : ℕ) (bs : List ℕ) → (b == 35) ≡ true → IsPart (b ∷ bs) (bytes (comment_len (b ∷ bs)))
comment_part b bs t = record {
  some = let e = eqb-true b 35 t in rw e (omega arith);
  within = comment_within (b ∷ bs);
  lines = omega arith;
}

-- ---- operators

-- these are no empty spellings
abbrev all_some : List (List ℕ × Lexeme) → Bool
all_some [] = true
all_some (e ∷ es) = nat_lt 0 (length e.0) && all_some es

pub begins_so : (text p : List ℕ) → starts_with nat_eq text p ≡ true → text ≡ p ++ drop (length p) text
begins_so text p h = (starts_is Decides-eqb text p (starts_with nat_eq text p) refl).0 h

prefix_within : (text p : List ℕ) → text ≡ p ++ drop (length p) text → length p ≤ length text
prefix_within text p e = let l = ap length e ∙ length-append p (drop (length p) text) in omega arith

spelled_within : (table : List (List ℕ × Lexeme)) (text : List ℕ) (e : List ℕ × Lexeme) → all_some table ≡ true → first_spelled table text ≡ Some e
    → (0 < length e.0) × (length e.0 ≤ length text)
spelled_within [] text e all h = cc
spelled_within (x ∷ xs) text e all h = elim (by_bool (starts_with nat_eq text x.0)) [
  | inl t ↦
      let found : Some x ≡ Some e = rw t at h in
      let same : x ≡ e = cc in
      let P : (List ℕ × Lexeme) → Type 0 = λ y. (0 < length y.0) × (length y.0 ≤ length text) in
      subst P same (ltb-true 0 (length x.0) (left_of (nat_lt 0 (length x.0)) (all_some xs) all), prefix_within text x.0 (begins_so text x.0 t))
  | inr t ↦ let later : first_spelled xs text ≡ Some e = rw t at h in spelled_within xs text e (right_of (nat_lt 0 (length x.0)) (all_some xs) all) later
]

pub operator_within : (text : List ℕ) (e : List ℕ × Lexeme) → operator text ≡ Some e → (0 < length e.0) × (length e.0 ≤ length text)
unfolding operator
operator_within text e h = spelled_within operators text e refl h

-- the same of the number of its bytes
pub mark_within : (text : List ℕ) (n : ℕ) (lexeme : Lexeme) → option_map with_len (operator text) ≡ Some (n, lexeme) → (0 < n) × (n ≤ length text)
mark_within text n lexeme h = by_entry (operator text) refl h
  where
    by_entry : (o : Option (List ℕ × Lexeme)) → operator text ≡ o → option_map with_len o ≡ Some (n, lexeme) → (0 < n) × (n ≤ length text)
    by_entry None e h = cc
    by_entry (Some x) e h =
        let w = operator_within text x e in
        let same : with_len x ≡ (n, lexeme) = cc in
        let long : length x.0 ≡ n = ap (λ p. p.0) same in
        rw (← long) w

mark_fits : (text : List ℕ) → Fits text (mark text)
unfolding mark
mark_fits text = by_entry (operator text) refl
  where
    by_entry : (o : Option (List ℕ × Lexeme)) → operator text ≡ o → Fits text (mark_by o)
    by_entry None h = omega arith
    by_entry (Some e) h = let w = operator_within text e h in record { some = w.0; within = w.1; lines = omega arith }

-- ---- strings

never_closing : (raw : Bool) (n : ℕ) (bs : List ℕ) → after_backslash_by raw n bs ≡ Closing → ⊥
never_closing raw (suc n) bs h = cc
never_closing raw zero [] h = cc
never_closing raw zero (c ∷ cs) h = cc

never_plain : (q : Quoting) (b n : ℕ) → plain_by q b n ≡ Closing → ⊥
never_plain q b zero h = cc
never_plain q b (suc n) h = by_test (λ part. part ≡ Closing → ⊥) q.triple _ _ (λ t h. cc) (λ t h. cc) h

pair_long : (a : ℕ) (bs : List ℕ) → begins_pair a bs ≡ true → 2 ≤ length bs
pair_long a [] h = cc
pair_long a (b ∷ []) h = let never : false ≡ true = right_of (b == a) false h in cc
pair_long a (b ∷ c ∷ cs) h = omega arith

closing_long : (triple here pair : Bool) (n : ℕ) → (here && (not triple || pair)) ≡ true → (pair ≡ true → 2 ≤ n) → cond triple 3 1 ≤ suc n
closing_long true here pair n h more = let two = more (right_of here pair h) in omega arith
closing_long false here pair n h more = omega arith

closing_fits : (q : Quoting) (b : ℕ) (bs : List ℕ) → body_part q (b ∷ bs) ≡ Closing → quotes_len q ≤ length (b ∷ bs)
unfolding body_part
closing_fits q b bs =
    by_test (λ part. part ≡ Closing → quotes_len q ≤ length (b ∷ bs)) (b == 92) _ _ (λ t h. absurd (never_closing q.raw (newline_len bs) bs h)) (λ t.
    by_test (λ part. part ≡ Closing → quotes_len q ≤ length (b ∷ bs)) (closes q (b ∷ bs)) _ _
    (λ u h. closing_long q.triple (b == q.quote) (begins_pair q.quote bs) (length bs) u (pair_long q.quote bs))
    (λ u h. absurd (never_plain q b (newline_len (b ∷ bs)) h)))

pub take_short : (n : ℕ) (xs : List ℕ) → length (take n xs) ≤ n
take_short zero xs = omega arith
take_short (suc n) [] = omega arith
take_short (suc n) (x ∷ xs) = let r = take_short n xs in omega arith

mapped : (o : Option (List BodyItem)) (i : BodyItem) (is : List BodyItem) → option_map (λ js. i ∷ js) o ≡ Some is → (js : List BodyItem) × (o ≡ Some js) × (i ∷ js ≡ is)
mapped None i is h = cc
mapped (Some js) i is h = (js, refl, cc)

item_fits : (q : Quoting) (b : ℕ) (bs : List ℕ) (is : List BodyItem) (part : BodyPart) → body_part q (b ∷ bs) ≡ part
    → ((k : ℕ) (js : List BodyItem) → items q k bs ≡ Some js → k + length (spelling js) + quotes_len q ≤ length bs)
    → items_by part b bs (λ more. items q more bs) ≡ Some is → length (spelling is) + quotes_len q ≤ suc (length bs)
item_fits q b bs is Closing e later h =
    let none : [] ≡ is = cc in
    let P : List BodyItem → Type 0 = λ js. length (spelling js) + quotes_len q ≤ suc (length bs) in
    subst P none (let fits = closing_fits q b bs e in omega arith)
item_fits q b bs is Unclosed e later h = cc
item_fits q b bs is (Item more v) e later h =
    let i : BodyItem = record { spelled = b ∷ take more bs; value = item_value v } in
    let m = mapped (items q more bs) i is h in
    let P : List BodyItem → Type 0 = λ js. length (spelling js) + quotes_len q ≤ suc (length bs) in
    let long = length-append (b ∷ take more bs) (spelling m.0) in
    let short = take_short more bs in
    let rest = later more m.0 m.1 in
    subst P m.2 (omega arith)

items_fit : (q : Quoting) (text : List ℕ) (k : ℕ) (is : List BodyItem) → items q k text ≡ Some is → k + length (spelling is) + quotes_len q ≤ length text
unfolding items
items_fit q [] zero is h = cc
items_fit q [] (suc k) is h = cc
items_fit q (b ∷ bs) (suc k) is h = let r = items_fit q bs k is h in omega arith
items_fit q (b ∷ bs) zero is h = let r = item_fits q b bs is (body_part q (b ∷ bs)) refl (items_fit q bs) h in omega arith

quotes_some : (q : Quoting) → 0 < quotes_len q
quotes_some q = by_test (λ n. 0 < n) q.triple _ _ (λ t. omega arith) (λ t. omega arith)

from_within : (q : Quoting) (text : List ℕ) (l : StringLiteral) (o : Option (List BodyItem)) → items q 0 (drop (opening_len q) text) ≡ o
    → literal_from q (opening_len q) None o ≡ Some l → (0 < l.len) × (l.len ≤ length text)
from_within q text l None e h = cc
from_within q text l (Some is) e h =
    let fits = items_fit q (drop (opening_len q) text) 0 is e in
    let some = quotes_some q in
    let dropped = length-drop (opening_len q) text in
    let same : opening_len q + length (spelling is) + quotes_len q ≡ l.len = cc in
    rw (← same) (omega arith, omega arith)

pub scanned_within : (text : List ℕ) (l : StringLiteral) → scan_string text ≡ Some l → (0 < l.len) × (l.len ≤ length text)
scanned_within text l h = by_opening (opening text) refl
  where
    by_opening : (o : Option Quoting) → opening text ≡ o → (0 < l.len) × (l.len ≤ length text)
    by_opening None e = let never : None ≡ Some l = sym (not_opened text e) ∙ h in cc
    by_opening (Some q) e = from_within q text l (items q 0 (drop (opening_len q) text)) refl (sym (scanned text q e) ∙ h)

pub newlines_within : (bs : List ℕ) → newlines bs ≤ length bs
newlines_within bs = count_by-le-length (λ b. b == 10) bs

taken_newlines : (n : ℕ) (bs : List ℕ) → newlines (take n bs) ≤ n
taken_newlines n bs = let a = newlines_within (take n bs) in let b = take_short n bs in omega arith

take_within : (n : ℕ) (bs : List ℕ) → length (take n bs) ≤ length bs
take_within zero bs = omega arith
take_within (suc n) [] = omega arith
take_within (suc n) (b ∷ bs) = let r = take_within n bs in omega arith

string_fits : (text : List ℕ) → Fits text (string text)
unfolding string
string_fits text = by_scan (scan_string text) refl
  where
    by_escape : (o : Option ℕ) (l : StringLiteral) → (0 < l.len) × (l.len ≤ length text) → Fits text (escapes_by o l.len text)
    by_escape None l w = record { some = w.0; within = w.1; lines = taken_newlines l.len text }
    by_escape (Some before) l w = let a = newlines_within (take before text) in let b = take_within before text in omega arith

    by_scan : (o : Option StringLiteral) → scan_string text ≡ o → Fits text (string_by o text)
    by_scan None h = omega arith
    by_scan (Some l) h = by_escape l.bad_escape l (scanned_within text l h)

-- a literal that is read at once
pub plain_piece : (text : List ℕ) (n : ℕ) → IsPlainString text n → Lexed (Plain k.String) (bytes n) ≡ string text
unfolding string
plain_piece text n p = (λ i. Lexed (Plain k.String) (record { len = n; lines = sym p.lines i })) ∙ sym (ap (λ o. string_by o text) p.literal)

pub plain_fits : (text : List ℕ) (n : ℕ) → IsPlainString text n → Fits text (Lexed (Plain k.String) (bytes n))
plain_fits text n p = let w = scanned_within text (record { len = n; bad_escape = None }) p.literal in record { some = w.0; within = w.1; lines = omega arith }

-- ---- the rest

word_fits : (b : ℕ) (bs : List ℕ) → is_letter b ≡ true → Fits (b ∷ bs) (word (b ∷ bs))
unfolding word
word_fits b bs letter = run_part (has Word) b bs (letter_is_word b letter)

pub digit_counts : (b : ℕ) (rest : Bool) → (is_digit b || b == 46 && rest) ≡ true → is_number_byte b ≡ true
digit_counts b rest h = elim (by_bool (is_digit b)) [
  | inl d ↦ elim (by_bool (is_letter b)) [ inl l ↦ rw l refl | inr l ↦ rw (l, d) refl ]
  | inr d ↦
      let dot : (b == 46 && rest) ≡ true = rw d at h in
      let is : (b == 46) ≡ true = left_of (b == 46) rest dot in
      elim (by_bool (is_letter b)) [ inl l ↦ rw l refl | inr l ↦ rw (l, d) is ]
]

number_fits : (b : ℕ) (bs : List ℕ) → begins_number (b ∷ bs) ≡ true → Fits (b ∷ bs) (number (b ∷ bs))
unfolding number
number_fits b bs begins =
    by_test (Fits (b ∷ bs)) (is_some (int_value (take (number_len (b ∷ bs)) (b ∷ bs)))) _ _
    (λ t. run_part is_number_byte b bs (digit_counts b (begins_decimal bs) begins))
    (λ t. omega arith)

joined_fits : (b : ℕ) (bs : List ℕ) → Fits (b ∷ bs) (joined bs)
unfolding joined
joined_fits b bs =
    by_test (Fits (b ∷ bs)) (newline_len bs == 0) _ _ (λ t. omega arith) (λ t. let w = newline_within bs in record {
      some = omega arith;
      within = omega arith;
      lines = omega arith;
    })

pub fits : (text : List ℕ) → 0 < length text → Fits text (next_piece text)
unfolding next_piece
fits [] some = absurd (omega arith)
fits (b ∷ bs) some =
    let P : Piece → Type 0 = Fits (b ∷ bs) in
    by_test P (is_blank b) _ _ (λ t. run_part (has Blank) b bs t) (λ _.
    by_test P (begins_string (b ∷ bs)) _ _ (λ t. string_fits (b ∷ bs)) (λ _.
    by_test P (is_letter b) _ _ (λ t. word_fits b bs t) (λ _.
    by_test P (begins_number (b ∷ bs)) _ _ (λ t. number_fits b bs t) (λ _.
    by_test P (b == 35) _ _ (λ t. comment_part b bs t) (λ _.
    by_test P (b == 92) _ _ (λ t. joined_fits b bs) (λ _.
    by_test P (newline_len (b ∷ bs) == 0) _ _ (λ t. mark_fits (b ∷ bs)) (λ t. let w = newline_within (b ∷ bs) in let n = above_zero (newline_len (b ∷ bs)) t in record {
      some = n;
      within = w;
      lines = omega arith;
    })))))))
