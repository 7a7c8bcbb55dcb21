-- What the words say of a piece is what the definition finds there.
use Rattle.std.proofs.Common.{◌≡◌, ℕ, zero, suc, ◌+◌, ◌<◌, ◌≤◌, inl, inr, List, [], ◌∷◌, ◌++◌, length, take, drop, Bool, true, false, cond, Option, Some, None, refl, sym, ap, ◌∙◌, subst, arith, nat_eq, nat_lt, eq-eqb}
use Rattle.std.specs.Prelude.{◌==◌, ◌&&◌, ◌||◌, not, nat_le, is_some}
use Rattle.std.specs.Str.{bytes_eq}
use Rattle.std.specs.List.{AllByRecursion, prefix_len, starts_with, list_all}
use Rattle.std.proofs.lemmas.List.{take_at, take-append-drop}
use Rattle.std.proofs.lemmas.Bool.{eqb-true, leb-true}
use Rattle.std.proofs.lemmas.Bool.Decides.{Decides-eqb}
use Rattle.std.proofs.lemmas.Slice.Eq.{starts_is}
use Rattle.bq_source.specs.declared.lexis.RunClass.TheVariants.{Blank, Word}
use Rattle.bq_source.specs.declared.operators.Lexeme.{Lexeme}
use Rattle.bq_source.specs.declared.operators.Lexeme.TheVariants.{Plain}
use Rattle.bq_source.specs.declared.piece.Extent.{Extent}
use Rattle.bq_source.specs.declared.piece.Piece.{Piece}
use Rattle.bq_source.specs.declared.piece.Piece.TheVariants.{Gap, LineEnd, Lexed, Bad}
use Rattle.bq_source.specs.declared.string_literal.StringLiteral.{StringLiteral}
use Rattle.bq_source.specs.declared.token.TokenKind.TheVariants as k
use Rattle.bq_base.specs.declared.fault.TokenFault.{TokenFault}
use Rattle.bq_base.specs.declared.fault.TokenFault.TheVariants as f
use Rattle.bq_source.specs.Lexis.{has, is_blank, is_letter, is_word, is_digit, newlines, newline_len, comment_len, word_kind}
use Rattle.bq_source.specs.Operators.{operators, first_spelled, operator as operator_at}
use Rattle.bq_source.specs.Number.{begins_number, begins_decimal, number_len, is_number_byte, int_value}
use Rattle.bq_source.specs.StringLiteral.{opening, is_quote, begins_string, scan_string}
use Rattle.bq_source.specs.Piece.{word as word_piece, number as number_piece, string as string_piece, mark, joined, piece_by, next_piece}
use Rattle.bq_source.proofs.Cases.{mark_by, string_by, escapes_by}
use Rattle.bq_source.specs.Spelling.{BeginsNot, IsRun, IsLineEnd, lf, cr_lf, BeginsLineEnd, IsLineRest, at_end, at_line_end, further, IsGap, blank, comment, joint, IsWord, IsNumber, IsListed, NoneLonger, NoneBegins, IsOperator, IsSpelled, word, number, string, operator, BeginsNothing, IsMisspelled, bad_byte, bad_int, open_string, bad_escape}
use Rattle.bq_base.proofs.Choices.{by_bool, left_of, right_of}
use Rattle.bq_source.proofs.Items.{not_opened}
use Rattle.bq_source.proofs.Spelled.{EndMeans, end_means, no_newlines, comment_line, false_not_true, IsFirst, first_operator}

abbrev pub extent_of : List ℕ → Extent
extent_of bs = record { len = length bs; lines = newlines bs }

-- the text begins with this piece
abbrev pub Next : List ℕ → Piece → Type 0
Next text p = (0 < length text) × (next_piece text ≡ p)

pieces : (b : ℕ) (bs : List ℕ) → next_piece (b ∷ bs) ≡ piece_by (b ∷ bs) (b ∷ bs)
unfolding next_piece
pieces b bs = refl

-- ---- one rule after another

passed : (c : Bool) (x y p : Piece) → c ≡ false → y ≡ p → cond c x y ≡ p
passed c x y p h e = rw h e

chosen : (c : Bool) (x y p : Piece) → c ≡ true → x ≡ p → cond c x y ≡ p
chosen c x y p h e = rw h e

-- a byte that has the property is not one that has not
differs : (p : ℕ → Bool) (b c : ℕ) → p b ≡ true → p c ≡ false → (b == c) ≡ false
differs p b c h none = elim (by_bool (b == c)) [
  | inr other ↦ other
  | inl same ↦ let P : ℕ → Type 0 = λ x. p x ≡ true in absurd (false_not_true (sym none ∙ subst P (eqb-true b c same) h))
]

no_blank_by : (b : ℕ) → (b == 32) ≡ false → (b == 9) ≡ false → is_blank b ≡ false
no_blank_by b h i = rw (h, i) refl

-- ---- runs

run_len : (p : ℕ → Bool) (bs rest : List ℕ) → AllByRecursion (λ b. p b ≡ true) bs → BeginsNot p rest → prefix_len p (bs ++ rest) ≡ length bs
run_len p [] [] all stop = refl
run_len p [] (c ∷ cs) all stop = rw stop refl
run_len p (b ∷ bs) rest all stop = let r = run_len p bs rest all.1 stop in let first = all.0 in rw first (omega arith)

front : (bs rest : List ℕ) → take (length bs) (bs ++ rest) ≡ bs
front bs rest = take_at bs rest (length bs) refl

-- ---- gaps

blank_next : (bs rest : List ℕ) → IsRun is_blank bs rest → Next (bs ++ rest) (Gap (extent_of bs))
blank_next [] rest h = let s = h.some in absurd (omega arith)
blank_next (b ∷ bs) rest h =
    let long : prefix_len (has Blank) (b ∷ bs ++ rest) ≡ length (b ∷ bs) = run_len is_blank (b ∷ bs) rest h.all h.longest in
    let lines : 0 ≡ newlines (b ∷ bs) = sym (no_newlines is_blank (b ∷ bs) refl h.all) in
    (omega arith, pieces b (bs ++ rest) ∙ chosen (is_blank b) _ _ _ h.all.0 (λ i. Gap (record { len = long i; lines = lines i })))

no_len : (text : List ℕ) (n : ℕ) → EndMeans text n → (BeginsLineEnd text → ⊥) → n ≡ 0
no_len text zero h none = refl
no_len text (suc n) h none = absurd (none (take (suc n) text, drop (suc n) text, sym (take-append-drop (suc n) text), h.0))

stops_at_end : (end rest : List ℕ) → IsLineEnd end → comment_len (end ++ rest) ≡ 0
stops_at_end end rest lf = refl
stops_at_end end rest cr_lf = refl

goes_on : (b : ℕ) (bs : List ℕ) (n : ℕ) → newline_len (b ∷ bs) ≡ 0 → comment_len bs ≡ n → comment_len (b ∷ bs) ≡ suc n
goes_on b bs n none more = rw none (omega arith)

rest_len : {bs rest : List ℕ} → IsLineRest bs rest → comment_len (bs ++ rest) ≡ length bs
rest_len at_end = refl
rest_len (at_line_end (end, rest, e, h)) = ap comment_len e ∙ stops_at_end end rest h
rest_len (further {bs = bs} {rest = rest} b none h) =
    goes_on b (bs ++ rest) (length bs) (no_len (b ∷ bs ++ rest) (newline_len (b ∷ bs ++ rest)) (end_means (b ∷ bs ++ rest)) none) (rest_len h)

rest_line : {bs rest : List ℕ} → IsLineRest bs rest → newlines bs ≡ 0
rest_line {bs = bs} {rest = rest} h =
    let cut : take (comment_len (bs ++ rest)) (bs ++ rest) ≡ bs = take_at bs rest (comment_len (bs ++ rest)) (sym (rest_len h)) in
    ap newlines (sym cut) ∙ comment_line (bs ++ rest)

comment_next : (body rest : List ℕ) → IsLineRest body rest → Next (35 ∷ body ++ rest) (Gap (extent_of (35 ∷ body)))
unfolding next_piece opening
comment_next body rest h =
    let more = rest_len h in
    let long : 1 + comment_len (body ++ rest) ≡ length (35 ∷ body) = omega arith in
    let lines : 0 ≡ newlines (35 ∷ body) = sym (rest_line h) in
    (omega arith, λ i. Gap (record { len = long i; lines = lines i }))

joint_next : (end rest : List ℕ) → IsLineEnd end → Next (92 ∷ end ++ rest) (Gap (extent_of (92 ∷ end)))
unfolding next_piece opening joined
joint_next end rest lf = (omega arith, refl)
joint_next end rest cr_lf = (omega arith, refl)

pub gap_next : (bs rest : List ℕ) → IsGap bs rest → Next (bs ++ rest) (Gap (extent_of bs))
gap_next bs rest (blank run) = blank_next bs rest run
gap_next bs rest (comment body e h) = let P : List ℕ → Type 0 = λ xs. Next (xs ++ rest) (Gap (extent_of xs)) in subst P (sym e) (comment_next body rest h)
gap_next bs rest (joint end e h) = let P : List ℕ → Type 0 = λ xs. Next (xs ++ rest) (Gap (extent_of xs)) in subst P (sym e) (joint_next end rest h)

pub line_end_next : (bs rest : List ℕ) → IsLineEnd bs → Next (bs ++ rest) (LineEnd (extent_of bs))
unfolding next_piece opening
line_end_next bs rest lf = (omega arith, refl)
line_end_next bs rest cr_lf = (omega arith, refl)

-- ---- words

letter_no_blank : (b : ℕ) → is_letter b ≡ true → is_blank b ≡ false
letter_no_blank b h = no_blank_by b (differs is_letter b 32 h refl) (differs is_letter b 9 h refl)

word_found : (b : ℕ) (bs rest : List ℕ) → IsWord (b ∷ bs) rest → word_piece (b ∷ bs ++ rest) ≡ Lexed (Plain (word_kind (b ∷ bs))) (extent_of (b ∷ bs))
unfolding word_piece
word_found b bs rest h =
    let long : prefix_len (has Word) (b ∷ bs ++ rest) ≡ length (b ∷ bs) = run_len is_word (b ∷ bs) rest h.run.all h.run.longest in
    let lines : 0 ≡ newlines (b ∷ bs) = sym (no_newlines is_word (b ∷ bs) refl h.run.all) in
    let cut : take (prefix_len (has Word) (b ∷ bs ++ rest)) (b ∷ bs ++ rest) ≡ b ∷ bs = take_at (b ∷ bs) rest (prefix_len (has Word) (b ∷ bs ++ rest)) (sym long) in
    λ i. Lexed (Plain (word_kind (cut i))) (record { len = long i; lines = lines i })

word_next : (bs rest : List ℕ) → IsWord bs rest → Next (bs ++ rest) (Lexed (Plain (word_kind bs)) (extent_of bs))
word_next [] rest h = absurd h.first
word_next (b ∷ bs) rest h = (
  omega arith,
  pieces b (bs ++ rest)
      ∙ passed (is_blank b) _ _ _ (letter_no_blank b h.first)
      (passed (begins_string (b ∷ bs ++ rest)) _ _ _ h.no_string
      (chosen (is_letter b) _ _ _ h.first (word_found b bs rest h))),
)

-- ---- numbers

no_string_by : (b : ℕ) (bs : List ℕ) → (b == 114) ≡ false → is_quote b ≡ false → begins_string (b ∷ bs) ≡ false
unfolding opening
no_string_by b bs h i = rw (h, i) refl

no_quote_by : (b : ℕ) → (b == 34) ≡ false → (b == 39) ≡ false → is_quote b ≡ false
no_quote_by b h i = rw (h, i) refl

too_small : (m b n : ℕ) → b ≤ n → n < m → nat_le m b ≡ false
too_small m b n le less = elim (by_bool (nat_le m b)) [ inr u ↦ u | inl t ↦ let more = leb-true m b t in absurd (omega arith) ]

no_letter_by : (b : ℕ) → nat_le 97 b ≡ false → nat_le 65 b ≡ false → (b == 95) ≡ false → is_letter b ≡ false
no_letter_by b h i j = rw (h, i, j) refl

number_first : (b : ℕ) (bs : List ℕ) → begins_number (b ∷ bs) ≡ true → (is_digit b || b == 46) ≡ true
number_first b bs h = elim (by_bool (is_digit b)) [
  | inl d ↦ rw d refl
  | inr d ↦ let dot : (b == 46 && begins_decimal bs) ≡ true = rw d at h in let is = left_of (b == 46) (begins_decimal bs) dot in rw (d, is) refl
]

first_small : (b : ℕ) → (is_digit b || b == 46) ≡ true → b ≤ 57
first_small b h = elim (by_bool (is_digit b)) [
  | inl d ↦ leb-true b 57 (right_of (nat_le 48 b) (nat_le b 57) d)
  | inr d ↦ let dot : (b == 46) ≡ true = rw d at h in let e = eqb-true b 46 dot in omega arith
]

module _ (b : ℕ) (bs : List ℕ) (begins : begins_number (b ∷ bs) ≡ true) where
  first : (is_digit b || b == 46) ≡ true
  first = number_first b bs begins

  number_no_blank : is_blank b ≡ false
  number_no_blank = no_blank_by b (differs (λ c. is_digit c || c == 46) b 32 first refl) (differs (λ c. is_digit c || c == 46) b 9 first refl)

  number_no_string : begins_string (b ∷ bs) ≡ false
  number_no_string =
      no_string_by b bs (differs (λ c. is_digit c || c == 46) b 114 first refl)
      (no_quote_by b (differs (λ c. is_digit c || c == 46) b 34 first refl) (differs (λ c. is_digit c || c == 46) b 39 first refl))

  number_no_letter : is_letter b ≡ false
  number_no_letter =
      let small = first_small b first in
      no_letter_by b (too_small 97 b 57 small (omega arith)) (too_small 65 b 57 small (omega arith)) (differs (λ c. is_digit c || c == 46) b 95 first refl)

number_at : (b : ℕ) (bs : List ℕ) (p : Piece) → begins_number (b ∷ bs) ≡ true → number_piece (b ∷ bs) ≡ p → Next (b ∷ bs) p
number_at b bs p begins e = (
  omega arith,
  pieces b bs
      ∙ passed (is_blank b) _ _ _ (number_no_blank b bs begins)
      (passed (begins_string (b ∷ bs)) _ _ _ (number_no_string b bs begins)
      (passed (is_letter b) _ _ _ (number_no_letter b bs begins)
      (chosen (begins_number (b ∷ bs)) _ _ _ begins e))),
)

number_cut : (bs rest : List ℕ) → IsNumber bs rest → number_len (bs ++ rest) ≡ length bs
number_cut bs rest h = run_len is_number_byte bs rest h.run.all h.run.longest

valued : (c : Bool) (x y : Piece) → c ≡ true → cond c x y ≡ x
valued c x y h = rw h refl

unvalued : (c : Bool) (x y : Piece) → c ≡ false → cond c x y ≡ y
unvalued c x y h = rw h refl

number_found : (bs rest : List ℕ) (n : ℕ) → IsNumber bs rest → int_value bs ≡ Some n → number_piece (bs ++ rest) ≡ Lexed (Plain k.Int) (extent_of bs)
unfolding number_piece
number_found bs rest n h e =
    let long = number_cut bs rest h in
    let lines : 0 ≡ newlines bs = sym (no_newlines is_number_byte bs refl h.run.all) in
    let cut : take (number_len (bs ++ rest)) (bs ++ rest) ≡ bs = take_at bs rest (number_len (bs ++ rest)) (sym long) in
    valued (is_some (int_value (take (number_len (bs ++ rest)) (bs ++ rest)))) _ _ (ap (λ xs. is_some (int_value xs)) cut ∙ ap is_some e)
    ∙ (λ i. Lexed (Plain k.Int) (record { len = long i; lines = lines i }))

number_missed : (bs rest : List ℕ) → IsNumber bs rest → int_value bs ≡ None → number_piece (bs ++ rest) ≡ Bad f.BadInt 0
unfolding number_piece
number_missed bs rest h e =
    let long = number_cut bs rest h in
    let cut : take (number_len (bs ++ rest)) (bs ++ rest) ≡ bs = take_at bs rest (number_len (bs ++ rest)) (sym long) in
    unvalued (is_some (int_value (take (number_len (bs ++ rest)) (bs ++ rest)))) _ _ (ap (λ xs. is_some (int_value xs)) cut ∙ ap is_some e)

number_next : (bs rest : List ℕ) (n : ℕ) → IsNumber bs rest → int_value bs ≡ Some n → Next (bs ++ rest) (Lexed (Plain k.Int) (extent_of bs))
number_next [] rest n h e = let s = h.run.some in absurd (omega arith)
number_next (b ∷ bs) rest n h e = number_at b (bs ++ rest) _ h.begins (number_found (b ∷ bs) rest n h e)

bad_int_next : (bs rest : List ℕ) → IsNumber bs rest → int_value bs ≡ None → Next (bs ++ rest) (Bad f.BadInt 0)
bad_int_next [] rest h e = let s = h.run.some in absurd (omega arith)
bad_int_next (b ∷ bs) rest h e = number_at b (bs ++ rest) _ h.begins (number_missed (b ∷ bs) rest h e)

-- ---- strings

no_empty_string : begins_string [] ≡ false
unfolding opening
no_empty_string = refl

string_at : (text : List ℕ) (p : Piece) → begins_string text ≡ true → string_piece text ≡ p → Next text p
string_at [] p begins e = absurd (false_not_true (sym no_empty_string ∙ begins))
string_at (b ∷ bs) p begins e = (
  omega arith,
  pieces b bs
      ∙ passed (is_blank b) _ _ _
      (no_blank_by b (differs (λ c. begins_string (c ∷ bs)) b 32 begins (no_string_by 32 bs refl refl)) (differs (λ c. begins_string (c ∷ bs)) b 9 begins (no_string_by 9 bs refl refl)))
      (chosen (begins_string (b ∷ bs)) _ _ _ begins e),
)

scanned_begins : (text : List ℕ) (l : StringLiteral) → scan_string text ≡ Some l → begins_string text ≡ true
scanned_begins text l h = elim (by_bool (begins_string text)) [ inl t ↦ t | inr u ↦ absurd (none_scanned (opening text) refl u) ]
  where
    none_scanned : (o : Option _) → opening text ≡ o → is_some o ≡ false → ⊥
    none_scanned None e u = let never : None ≡ Some l = sym (not_opened text e) ∙ h in cc
    none_scanned (Some q) e u = cc

string_found : (text : List ℕ) (o : Option StringLiteral) → scan_string text ≡ o → string_piece text ≡ string_by o text
unfolding string_piece
string_found text o h = ap (λ s. string_by s text) h

string_next : (bs rest : List ℕ) → scan_string (bs ++ rest) ≡ Some (record { len = length bs; bad_escape = None }) → Next (bs ++ rest) (Lexed (Plain k.String) (extent_of bs))
string_next bs rest h =
    let cut = front bs rest in
    string_at (bs ++ rest) _ (scanned_begins (bs ++ rest) _ h)
    (string_found (bs ++ rest) _ h ∙ (λ i. Lexed (Plain k.String) (record { len = length bs; lines = newlines (cut i) })))

bad_escape_next : (text : List ℕ) (l : StringLiteral) (at : ℕ) → scan_string text ≡ Some l → l.bad_escape ≡ Some at → Next text (Bad f.Escape (newlines (take at text)))
bad_escape_next text l at h e = string_at text _ (scanned_begins text l h) (string_found text (Some l) h ∙ ap (λ o. escapes_by o l.len text) e)

open_string_next : (text : List ℕ) → begins_string text ≡ true → scan_string text ≡ None → Next text (Bad f.OpenString 0)
open_string_next text begins h = string_at text _ begins (string_found text None h)

-- ---- operators

listed_all : (p : List ℕ → Bool) (lexeme : Lexeme) (bs : List ℕ) (table : List (List ℕ × Lexeme)) → list_all (λ e. p e.0) table ≡ true → IsListed lexeme bs table → p bs ≡ true
listed_all p lexeme bs [] all i = absurd i
listed_all p lexeme bs (e ∷ es) all (inl same) =
    let P : List ℕ → Type 0 = λ xs. p xs ≡ true in
    subst P (ap (λ y. y.0) same) (left_of (p e.0) (list_all (λ y. p y.0) es) all)
listed_all p lexeme bs (e ∷ es) all (inr i) = listed_all p lexeme bs es (right_of (p e.0) (list_all (λ y. p y.0) es) all) i

not_true : (b : Bool) → not b ≡ true → b ≡ false
not_true true h = cc
not_true false h = refl

abbrev none_first : (ℕ → Bool) → List ℕ → Bool
none_first p [] = true
none_first p (b ∷ bs) = not (p b)

-- no operator begins with such a byte
listed_first : (p : ℕ → Bool) (lexeme : Lexeme) (b : ℕ) (bs : List ℕ) → list_all (λ e. none_first p e.0) operators ≡ true → IsListed lexeme (b ∷ bs) operators → p b ≡ false
listed_first p lexeme b bs all i = not_true (p b) (listed_all (none_first p) lexeme (b ∷ bs) operators all i)

listed_some : (lexeme : Lexeme) → IsListed lexeme [] operators → ⊥
listed_some lexeme i = let never = listed_all (λ bs. nat_lt 0 (length bs)) lexeme [] operators refl i in cc

listed_line : (lexeme : Lexeme) (bs : List ℕ) → IsListed lexeme bs operators → newlines bs ≡ 0
listed_line lexeme bs i = eqb-true (newlines bs) 0 (listed_all (λ xs. newlines xs == 0) lexeme bs operators refl i)

-- a spelling stands in a table for one lexeme
abbrev is_once : List (List ℕ × Lexeme) → Bool
is_once [] = true
is_once (e ∷ es) = list_all (λ y. not (bytes_eq e.0 y.0)) es && is_once es

same_bytes : (bs : List ℕ) → bytes_eq bs bs ≡ true
same_bytes [] = refl
same_bytes (b ∷ bs) = let r = same_bytes bs in rw (eq-eqb b b refl) r

not_later : (l : Lexeme) (bs : List ℕ) (es : List (List ℕ × Lexeme)) → list_all (λ y. not (bytes_eq bs y.0)) es ≡ true → IsListed l bs es → ⊥
not_later l bs es all i = false_not_true (sym (not_true (bytes_eq bs bs) (listed_all (λ xs. not (bytes_eq bs xs)) l bs es all i)) ∙ same_bytes bs)

one_lexeme : (l m : Lexeme) (bs : List ℕ) (table : List (List ℕ × Lexeme)) → is_once table ≡ true → IsListed l bs table → IsListed m bs table → l ≡ m
one_lexeme l m bs [] once i j = absurd i
one_lexeme l m bs (e ∷ es) once (inl x) (inl y) = ap (λ p. p.1) (sym x ∙ y)
one_lexeme l m bs (e ∷ es) once (inl x) (inr j) =
    let P : List ℕ → Type 0 = λ xs. list_all (λ y. not (bytes_eq xs y.0)) es ≡ true in
    absurd (not_later m bs es (subst P (ap (λ p. p.0) x) (left_of (list_all (λ y. not (bytes_eq e.0 y.0)) es) (is_once es) once)) j)
one_lexeme l m bs (e ∷ es) once (inr i) (inl y) =
    let P : List ℕ → Type 0 = λ xs. list_all (λ y. not (bytes_eq xs y.0)) es ≡ true in
    absurd (not_later l bs es (subst P (ap (λ p. p.0) y) (left_of (list_all (λ y. not (bytes_eq e.0 y.0)) es) (is_once es) once)) i)
one_lexeme l m bs (e ∷ es) once (inr i) (inr j) = one_lexeme l m bs es (right_of (list_all (λ y. not (bytes_eq e.0 y.0)) es) (is_once es) once) i j

begins_front : (bs rest : List ℕ) → starts_with nat_eq (bs ++ rest) bs ≡ true
begins_front bs rest = (starts_is Decides-eqb (bs ++ rest) bs (starts_with nat_eq (bs ++ rest) bs) refl).1 rest refl

-- what begins with a spelling has a first one
some_first : (l : Lexeme) (bs text : List ℕ) (table : List (List ℕ × Lexeme)) → starts_with nat_eq text bs ≡ true → IsListed l bs table
    → (x : List ℕ × Lexeme) × (first_spelled table text ≡ Some x)
some_first l bs text [] begins i = absurd i
some_first l bs text (e ∷ es) begins i = elim (by_bool (starts_with nat_eq text e.0)) [
  | inl t ↦ (e, rw t refl)
  | inr u ↦ elim i [
    | inl same ↦
        let P : List ℕ → Type 0 = λ xs. starts_with nat_eq text xs ≡ false in
        absurd (false_not_true (sym (subst P (ap (λ p. p.0) same) u) ∙ begins))
    | inr j ↦ let r = some_first l bs text es begins j in (r.0, rw u r.1)
  ]
]

longest_of : (l : Lexeme) (bs text : List ℕ) (n : ℕ) (table : List (List ℕ × Lexeme)) → NoneLonger text n table → IsListed l bs table → starts_with nat_eq text bs ≡ true → length bs ≤ n
longest_of l bs text n [] none i begins = absurd i
longest_of l bs text n (e ∷ es) none (inl same) begins =
    let P : List ℕ → Type 0 = λ xs. starts_with nat_eq text xs ≡ true → length xs ≤ n in
    subst P (ap (λ p. p.0) same) none.0 begins
longest_of l bs text n (e ∷ es) none (inr i) begins = longest_of l bs text n es none.1 i begins

same_front : (xs ys a b text : List ℕ) → text ≡ xs ++ a → text ≡ ys ++ b → length xs ≡ length ys → xs ≡ ys
same_front xs ys a b text e h long = sym (take_at xs a (length ys) long) ∙ ap (take (length ys)) (sym e ∙ h) ∙ front ys b

begun_by : (text xs : List ℕ) → text ≡ xs ++ drop (length xs) text → starts_with nat_eq text xs ≡ true
begun_by text xs e = (starts_is Decides-eqb text xs (starts_with nat_eq text xs) refl).1 (drop (length xs) text) e

-- the longest of the table is the one that the definition finds
operator_found : (lexeme : Lexeme) (bs rest : List ℕ) → IsOperator lexeme bs rest → first_spelled operators (bs ++ rest) ≡ Some (bs, lexeme)
operator_found lexeme bs rest h =
    let text : List ℕ = bs ++ rest in
    let s = some_first lexeme bs text operators (begins_front bs rest) h.listed in
    let x = s.0 in
    let m : IsFirst x operators text = first_operator text x s.1 in
    let above : length bs ≤ length x.0 = longest_of lexeme bs text (length x.0) operators m.2 h.listed (begins_front bs rest) in
    let below : length x.0 ≤ length bs = longest_of x.1 x.0 text (length bs) operators h.longest m.1 (begun_by text x.0 m.0) in
    let long : length x.0 ≡ length bs = omega arith in
    let same : x.0 ≡ bs = same_front x.0 bs (drop (length x.0) text) rest text m.0 refl long in
    let P : List ℕ → Type 0 = λ xs. IsListed x.1 xs operators in
    let kind : x.1 ≡ lexeme = one_lexeme x.1 lexeme bs operators refl (subst P same m.1) h.listed in
    s.1 ∙ (λ i. Some (same i, kind i))

mark_at : (b : ℕ) (bs : List ℕ) (p : Piece) → is_blank b ≡ false → begins_string (b ∷ bs) ≡ false → is_letter b ≡ false → begins_number (b ∷ bs) ≡ false → (b == 35) ≡ false
    → (b == 92) ≡ false → newline_len (b ∷ bs) ≡ 0 → mark (b ∷ bs) ≡ p → Next (b ∷ bs) p
mark_at b bs p no_blank no_string no_letter no_number no_comment no_joint no_end e = (
  omega arith,
  pieces b bs
      ∙ passed (is_blank b) _ _ _ no_blank
      (passed (begins_string (b ∷ bs)) _ _ _ no_string
      (passed (is_letter b) _ _ _ no_letter
      (passed (begins_number (b ∷ bs)) _ _ _ no_number
      (passed (b == 35) _ _ _ no_comment
      (passed (b == 92) _ _ _ no_joint
      (chosen (newline_len (b ∷ bs) == 0) _ _ _ (ap (λ n. n == 0) no_end) e)))))),
)

marked : (text : List ℕ) (o : Option (List ℕ × Lexeme)) → first_spelled operators text ≡ o → mark text ≡ mark_by o
unfolding mark operator_at
marked text o h = ap mark_by h

no_end_by : (b : ℕ) (bs : List ℕ) → (b == 10) ≡ false → (b == 13) ≡ false → newline_len (b ∷ bs) ≡ 0
no_end_by b bs h i = rw (h, i) refl

operator_next : (lexeme : Lexeme) (bs rest : List ℕ) → IsOperator lexeme bs rest → Next (bs ++ rest) (Lexed lexeme (extent_of bs))
operator_next lexeme [] rest h = absurd (listed_some lexeme h.listed)
operator_next lexeme (b ∷ bs) rest h =
    let i = h.listed in
    mark_at b (bs ++ rest) _ (listed_first is_blank lexeme b bs refl i)
    (no_string_by b (bs ++ rest) (listed_first (λ c. c == 114) lexeme b bs refl i) (listed_first is_quote lexeme b bs refl i))
    (listed_first is_letter lexeme b bs refl i) h.no_number (listed_first (λ c. c == 35) lexeme b bs refl i) (listed_first (λ c. c == 92) lexeme b bs refl i)
    (no_end_by b (bs ++ rest) (listed_first (λ c. c == 10) lexeme b bs refl i) (listed_first (λ c. c == 13) lexeme b bs refl i))
    (marked (b ∷ bs ++ rest) _ (operator_found lexeme (b ∷ bs) rest h) ∙ (λ j. Lexed lexeme (record { len = length (b ∷ bs); lines = sym (listed_line lexeme (b ∷ bs) i) j })))

-- ---- no piece

none_first_spelled : (text : List ℕ) (table : List (List ℕ × Lexeme)) → NoneBegins text table → first_spelled table text ≡ None
none_first_spelled text [] h = refl
none_first_spelled text (e ∷ es) h = let r = none_first_spelled text es h.1 in let u = h.0 in rw u r

lone_backslash : (bs : List ℕ) → newline_len bs ≡ 0 → joined bs ≡ Bad f.BadByte 0
unfolding joined
lone_backslash bs h = rw h refl

lone_next : (bs : List ℕ) → (BeginsLineEnd bs → ⊥) → Next (92 ∷ bs) (Bad f.BadByte 0)
unfolding next_piece opening
lone_next bs none = (omega arith, lone_backslash bs (no_len bs (newline_len bs) (end_means bs) none))

bad_byte_next : (text : List ℕ) → 0 < length text → BeginsNothing text → Next text (Bad f.BadByte 0)
bad_byte_next [] some h = absurd (omega arith)
bad_byte_next (b ∷ bs) some h = elim (by_bool (b == 92)) [
  | inl is ↦
      let e = eqb-true b 92 is in
      let P : ℕ → Type 0 = λ c. Next (c ∷ bs) (Bad f.BadByte 0) in
      subst P (sym e) (lone_next bs (h.no_joint bs (ap (λ c. c ∷ bs) e)))
  | inr not_joint ↦
      mark_at b bs _ h.no_blank h.no_string h.no_letter h.no_number h.no_comment not_joint
      (no_len (b ∷ bs) (newline_len (b ∷ bs)) (end_means (b ∷ bs)) h.no_line_end)
      (marked (b ∷ bs) None (none_first_spelled (b ∷ bs) operators h.no_operator))
]

-- ---- all of them

pub spelled_next : (lexeme : Lexeme) (bs rest : List ℕ) → IsSpelled lexeme bs rest → Next (bs ++ rest) (Lexed lexeme (extent_of bs))
spelled_next lexeme bs rest (word is h) = let P : Lexeme → Type 0 = λ l. Next (bs ++ rest) (Lexed l (extent_of bs)) in subst P (sym is) (word_next bs rest h)
spelled_next lexeme bs rest (number n is h e) = let P : Lexeme → Type 0 = λ l. Next (bs ++ rest) (Lexed l (extent_of bs)) in subst P (sym is) (number_next bs rest n h e)
spelled_next lexeme bs rest (string is h) = let P : Lexeme → Type 0 = λ l. Next (bs ++ rest) (Lexed l (extent_of bs)) in subst P (sym is) (string_next bs rest h)
spelled_next lexeme bs rest (operator h) = operator_next lexeme bs rest h

pub misspelled_next : {text : List ℕ} {kind : TokenFault} {lines : ℕ} → IsMisspelled text kind lines → Next text (Bad kind lines)
misspelled_next {text = text} (bad_byte some h) = bad_byte_next text some h
misspelled_next (bad_int bs rest e h v) = let P : List ℕ → Type 0 = λ xs. Next xs (Bad f.BadInt 0) in subst P (sym e) (bad_int_next bs rest h v)
misspelled_next {text = text} (open_string begins h) = open_string_next text begins h
misspelled_next {text = text} (bad_escape l at h e) = bad_escape_next text l at h e
