-- Each piece is spelled as its kind says.
use Rattle.std.proofs.Common.{◌≡◌, ℕ, zero, suc, ◌+◌, ◌<◌, ◌≤◌, ◌⊎◌, inl, inr, List, [], ◌∷◌, ◌++◌, length, take, drop, Bool, true, false, cond, Option, Some, None, refl, sym, ap, ◌∙◌, subst, arith, nat_eq, nat_lt}
use Rattle.std.specs.Prelude.{◌==◌, ◌&&◌, ◌||◌, not, nat_le, is_some}
use Rattle.std.specs.List.{AllByRecursion, prefix_len, starts_with, list_all}
use Rattle.std.proofs.lemmas.List.{take-append-drop, take-append-le, take_all, length-take-le}
use Rattle.std.proofs.Math.Seq.{take-append_seam}
use Rattle.std.proofs.lemmas.Slice.Eq.{starts_is}
use Rattle.std.proofs.lemmas.Bool.Decides.{Decides-eqb}
use borrow.Author.Tests.{ltb-true, ltb-false}
use Rattle.std.proofs.lemmas.List.Folds.{length-prefix_len}
use Rattle.std.proofs.lemmas.Bool.{eqb-true, leb-true}
use Rattle.bq_source.specs.declared.lexis.RunClass.TheVariants.{Word}
use Rattle.bq_source.specs.declared.operators.Lexeme.{Lexeme}
use Rattle.bq_source.specs.declared.operators.Lexeme.TheVariants.{Plain}
use Rattle.bq_source.specs.declared.piece.Piece.{Piece}
use Rattle.bq_source.specs.declared.piece.Piece.TheVariants.{Gap, LineEnd, Lexed, Bad}
use Rattle.bq_source.specs.declared.string_literal.StringLiteral.{StringLiteral}
use Rattle.bq_source.specs.declared.token.TokenKind.TheVariants as k
use Rattle.bq_base.specs.declared.fault.TokenFault.TheVariants as f
use Rattle.bq_source.specs.Lexis.{has, is_blank, is_letter, newlines, begins_with, newline_len, comment_len}
use Rattle.bq_source.specs.Operators.{operators, first_spelled, operator as operator_at}
use Rattle.bq_source.specs.Number.{begins_number, begins_decimal, number_len, is_number_byte, int_value}
use Rattle.bq_source.specs.StringLiteral.{begins_string, scan_string}
use Rattle.bq_source.specs.Piece.{bytes, word as word_piece, number as number_piece, string as string_piece, mark, joined, next_piece}
use Rattle.bq_source.proofs.Cases.{mark_by, string_by, escapes_by}
use Rattle.bq_source.specs.Spelling.{BeginsNot, Begins, IsRun, IsLineEnd, lf, cr_lf, BeginsLineEnd, IsLineRest, at_end, at_line_end, further, IsGap, blank, comment, joint, IsNumber, IsListed, NoneLonger, NoneBegins, IsSpelled, word, number, string, operator, IsMisspelled, bad_byte, bad_int, open_string, bad_escape}
use Rattle.bq_base.proofs.Choices.{by_test, by_bool, left_of, right_of}
use Rattle.bq_source.proofs.Fitting.{digit_counts, letter_is_word, begins_so, scanned_within}

-- what a piece says of the text that it begins
abbrev pub Means : List ℕ → Piece → Type 0
Means text (Gap e) = IsGap (take e.len text) (drop e.len text) × (e.lines ≡ newlines (take e.len text))
Means text (LineEnd e) = IsLineEnd (take e.len text) × (e.lines ≡ newlines (take e.len text))
Means text (Lexed lexeme e) = IsSpelled lexeme (take e.len text) (drop e.len text) × (e.lines ≡ newlines (take e.len text))
Means text (Bad kind lines) = IsMisspelled text kind lines

pub false_not_true : false ≡ true → ⊥
false_not_true h = cc

below_or_not : (m n : ℕ) → (m < n) ⊎ (n ≤ m)
below_or_not m n = by (nat_lt m n) refl
  where
    by : (b : Bool) → nat_lt m n ≡ b → (m < n) ⊎ (n ≤ m)
    by true e = inl (ltb-true m n e)
    by false e = inr (ltb-false m n e)

one_more : (n : ℕ) → suc n ≡ 1 + n
one_more n = omega arith

-- ---- runs

run_all : (p : ℕ → Bool) (xs : List ℕ) → AllByRecursion (λ x. p x ≡ true) (take (prefix_len p xs) xs)
run_all p [] = tt
run_all p (x ∷ xs) =
    by_test (λ n. AllByRecursion (λ y. p y ≡ true) (take n (x ∷ xs))) (p x) _ _
    (λ e. let Q : ℕ → Type 0 = λ n. AllByRecursion (λ y. p y ≡ true) (take n (x ∷ xs)) in subst Q (one_more (prefix_len p xs)) (e, run_all p xs))
    (λ e. tt)

run_stops : (p : ℕ → Bool) (xs : List ℕ) → BeginsNot p (drop (prefix_len p xs) xs)
run_stops p [] = tt
run_stops p (x ∷ xs) =
    by_test (λ n. BeginsNot p (drop n (x ∷ xs))) (p x) _ _
    (λ e. let Q : ℕ → Type 0 = λ n. BeginsNot p (drop n (x ∷ xs)) in subst Q (one_more (prefix_len p xs)) (run_stops p xs))
    (λ e. e)

some_run : (p : ℕ → Bool) (b : ℕ) (bs : List ℕ) → p b ≡ true → 0 < prefix_len p (b ∷ bs)
some_run p b bs h = rw h (omega arith)

is_run : (p : ℕ → Bool) (b : ℕ) (bs : List ℕ) → p b ≡ true → IsRun p (take (prefix_len p (b ∷ bs)) (b ∷ bs)) (drop (prefix_len p (b ∷ bs)) (b ∷ bs))
is_run p b bs h = record {
  some = let n = length-prefix_len p (b ∷ bs) in let s = some_run p b bs h in omega arith;
  all = run_all p (b ∷ bs);
  longest = run_stops p (b ∷ bs);
}

pub plus_line : (b : ℕ) (xs : List ℕ) → (b == 10) ≡ false → newlines (b ∷ xs) ≡ newlines xs
plus_line b xs e = rw e refl

no_newline : (p : ℕ → Bool) (b : ℕ) → p 10 ≡ false → p b ≡ true → (b == 10) ≡ false
no_newline p b none h = elim (by_bool (b == 10)) [
  | inr other ↦ other
  | inl same ↦ let e = eqb-true b 10 same in let P : Bool → Type 0 = λ t. t ≡ true in let never : false ≡ true = subst P none (subst (λ c. p c ≡ true) e h) in cc
]

pub no_newlines : (p : ℕ → Bool) (bs : List ℕ) → p 10 ≡ false → AllByRecursion (λ b. p b ≡ true) bs → newlines bs ≡ 0
no_newlines p [] none h = refl
no_newlines p (b ∷ bs) none h = plus_line b bs (no_newline p b none h.0) ∙ no_newlines p bs none h.1

one_line : (p : ℕ → Bool) (xs : List ℕ) → p 10 ≡ false → 0 ≡ newlines (take (prefix_len p xs) xs)
one_line p xs none = sym (no_newlines p (take (prefix_len p xs) xs) none (run_all p xs))

-- ---- line ends

abbrev pub EndMeans : List ℕ → ℕ → Type 0
EndMeans text zero = BeginsLineEnd text → ⊥
EndMeans text (suc n) = IsLineEnd (take (suc n) text) × (1 ≡ newlines (take (suc n) text))

not_lf : (b : ℕ) (bs : List ℕ) → (b == 10) ≡ false → (b == 13 && begins_with 10 bs) ≡ false → BeginsLineEnd (b ∷ bs) → ⊥
not_lf b bs n c (end, rest, e, h) = by_end end h e
  where
    by_end : (end : List ℕ) → IsLineEnd end → b ∷ bs ≡ end ++ rest → ⊥
    by_end end lf e = let is : b ≡ 10 = cc in let never : true ≡ false = rw is at n in cc
    by_end end cr_lf e =
        let is : b ≡ 13 = cc in
        let more : bs ≡ 10 ∷ rest = cc in
        let never : true ≡ false = rw (is, more) at c in cc

begins_newline : (bs : List ℕ) → begins_with 10 bs ≡ true → (rest : List ℕ) × (bs ≡ 10 ∷ rest)
begins_newline [] h = cc
begins_newline (b ∷ bs) h = let e = eqb-true b 10 h in (bs, rw e refl)

no_end : (end rest : List ℕ) → IsLineEnd end → [] ≡ end ++ rest → ⊥
no_end end rest lf e = cc
no_end end rest cr_lf e = cc

pub end_means : (text : List ℕ) → EndMeans text (newline_len text)
end_means [] = λ (end, rest, e, h). no_end end rest h e
end_means (b ∷ bs) =
    by_test (EndMeans (b ∷ bs)) (b == 10) _ _ (λ t. let e = eqb-true b 10 t in rw e (lf, refl)) (λ n.
    by_test (EndMeans (b ∷ bs)) (b == 13 && begins_with 10 bs) _ _
    (λ t.
    let e = eqb-true b 13 (left_of (b == 13) (begins_with 10 bs) t) in
    let r = begins_newline bs (right_of (b == 13) (begins_with 10 bs) t) in
    rw (e, r.1) (cr_lf, refl))
    (λ c. not_lf b bs n c))

line_end_at : (text : List ℕ) (n : ℕ) → (n == 0) ≡ false → EndMeans text n → IsLineEnd (take n text) × (1 ≡ newlines (take n text))
line_end_at text zero some h = cc
line_end_at text (suc n) some h = h

no_end_at : (text : List ℕ) (n : ℕ) → (n == 0) ≡ true → EndMeans text n → BeginsLineEnd text → ⊥
no_end_at text zero none h = h
no_end_at text (suc n) none h = let same : suc n ≡ 0 = eqb-true (suc n) 0 none in absurd (omega (arith, same))

-- ---- gaps

line_rest : (bs : List ℕ) → IsLineRest (take (comment_len bs) bs) (drop (comment_len bs) bs)
line_rest [] = at_end
line_rest (b ∷ bs) =
    by_test (λ n. IsLineRest (take n (b ∷ bs)) (drop n (b ∷ bs))) (newline_len (b ∷ bs) == 0) _ _
    (λ t.
    let no_end = no_end_at (b ∷ bs) (newline_len (b ∷ bs)) t (end_means (b ∷ bs)) in
    let P : List ℕ → Type 0 = λ xs. BeginsLineEnd (b ∷ xs) → ⊥ in
    let here = subst P (sym (take-append-drop (comment_len bs) bs)) no_end in
    let Q : ℕ → Type 0 = λ n. IsLineRest (take n (b ∷ bs)) (drop n (b ∷ bs)) in
    subst Q (one_more (comment_len bs)) (further b here (line_rest bs)))
    (λ t.
    let end = line_end_at (b ∷ bs) (newline_len (b ∷ bs)) t (end_means (b ∷ bs)) in
    at_line_end (take (newline_len (b ∷ bs)) (b ∷ bs), drop (newline_len (b ∷ bs)) (b ∷ bs), sym (take-append-drop (newline_len (b ∷ bs)) (b ∷ bs)), end.0))

not_newline : (b : ℕ) (bs : List ℕ) → (newline_len (b ∷ bs) == 0) ≡ true → (b == 10) ≡ false
not_newline b bs h = elim (by_bool (b == 10)) [ inr n ↦ n | inl t ↦ let never : false ≡ true = rw t at h in cc ]

pub comment_line : (bs : List ℕ) → newlines (take (comment_len bs) bs) ≡ 0
comment_line [] = refl
comment_line (b ∷ bs) =
    by_test (λ n. newlines (take n (b ∷ bs)) ≡ 0) (newline_len (b ∷ bs) == 0) _ _
    (λ t.
    let n = not_newline b bs t in
    let r = comment_line bs in
    let Q : ℕ → Type 0 = λ n. newlines (take n (b ∷ bs)) ≡ 0 in
    let both : newlines (b ∷ take (comment_len bs) bs) ≡ 0 = plus_line b (take (comment_len bs) bs) n ∙ r in
    subst Q (one_more (comment_len bs)) both)
    (λ t. refl)

comment_means : (b : ℕ) (bs : List ℕ) → (b == 35) ≡ true → Means (b ∷ bs) (Gap (bytes (comment_len (b ∷ bs))))
comment_means b bs t =
    let e = eqb-true b 35 t in
    let n = one_more (comment_len bs) in
    let long : comment_len (b ∷ bs) ≡ suc (comment_len bs) = rw e (sym n) in
    let P : ℕ → Type 0 = λ n. IsGap (take n (b ∷ bs)) (drop n (b ∷ bs)) × (0 ≡ newlines (take n (b ∷ bs))) in
    subst P (sym long) (comment (take (comment_len bs) bs) (ap (λ c. c ∷ take (comment_len bs) bs) e) (line_rest bs), rw e (sym (comment_line bs)))

joint_means : (b : ℕ) (bs : List ℕ) → (b == 92) ≡ true → BeginsNot is_blank (b ∷ bs) → BeginsNot is_letter (b ∷ bs) → begins_string (b ∷ bs) ≡ false → begins_number (b ∷ bs) ≡ false
    → NoneBegins (b ∷ bs) operators → Means (b ∷ bs) (joined bs)
unfolding joined
joint_means b bs t no_blank no_letter no_string no_number no_operator =
    by_test (Means (b ∷ bs)) (newline_len bs == 0) _ _
    (λ z. bad_byte (omega arith) record {
      no_blank = no_blank;
      no_letter = no_letter;
      no_comment = let e = eqb-true b 92 t in rw e refl;
      no_string = no_string;
      no_number = no_number;
      no_operator = no_operator;
      no_line_end = let e = eqb-true b 92 t in no_end_at (b ∷ bs) (newline_len (b ∷ bs)) (rw e refl) (end_means (b ∷ bs));
      no_joint = λ rest e. let same : bs ≡ rest = cc in subst (λ xs. BeginsLineEnd xs → ⊥) same (no_end_at bs (newline_len bs) z (end_means bs));
    })
    (λ z.
    let e = eqb-true b 92 t in
    let end = line_end_at bs (newline_len bs) z (end_means bs) in
    let n : suc (newline_len bs) ≡ newline_len bs + 1 = omega arith in
    let P : ℕ → Type 0 = λ n. IsGap (take n (b ∷ bs)) (drop n (b ∷ bs)) × (1 ≡ newlines (take n (b ∷ bs))) in
    subst P n (joint (take (newline_len bs) bs) (ap (λ c. c ∷ take (newline_len bs) bs) e) end.0, rw e end.1))

-- ---- tokens

module _ (text : List ℕ) (n : ℕ) where
  whole : take n text ++ drop n text ≡ text
  whole = take-append-drop n text

first_is : (p : ℕ → Bool) (b : ℕ) (bs : List ℕ) (n : ℕ) → p b ≡ true → 0 < n → Begins p (take n (b ∷ bs))
first_is p b bs zero h pos = absurd (omega arith)
first_is p b bs (suc n) h pos = h

word_means : (b : ℕ) (bs : List ℕ) → is_letter b ≡ true → begins_string (b ∷ bs) ≡ false → Means (b ∷ bs) (word_piece (b ∷ bs))
unfolding word_piece
word_means b bs letter no_string =
    let n = prefix_len (has Word) (b ∷ bs) in
    let P : List ℕ → Type 0 = λ xs. begins_string xs ≡ false in (
      word refl record {
        first = first_is is_letter b bs n letter (some_run (has Word) b bs (letter_is_word b letter));
        run = is_run (has Word) b bs (letter_is_word b letter);
        no_string = subst P (sym (whole (b ∷ bs) n)) no_string;
      },
      one_line (has Word) (b ∷ bs) refl,
    )

a_number : (b : ℕ) (bs : List ℕ) → begins_number (b ∷ bs) ≡ true → IsNumber (take (number_len (b ∷ bs)) (b ∷ bs)) (drop (number_len (b ∷ bs)) (b ∷ bs))
a_number b bs begins =
    let P : List ℕ → Type 0 = λ xs. begins_number xs ≡ true in
    record {
      begins = subst P (sym (whole (b ∷ bs) (number_len (b ∷ bs)))) begins;
      run = is_run is_number_byte b bs (digit_counts b (begins_decimal bs) begins);
    }

number_means : (b : ℕ) (bs : List ℕ) → begins_number (b ∷ bs) ≡ true → Means (b ∷ bs) (number_piece (b ∷ bs))
unfolding number_piece
number_means b bs begins = by_value (int_value (take (number_len (b ∷ bs)) (b ∷ bs))) refl
  where
    by_value : (o : Option ℕ) → int_value (take (number_len (b ∷ bs)) (b ∷ bs)) ≡ o → Means (b ∷ bs) (cond (is_some o) (Lexed (Plain k.Int) (bytes (number_len (b ∷ bs)))) (Bad f.BadInt 0))
    by_value None e = bad_int _ _ (sym (whole (b ∷ bs) (number_len (b ∷ bs)))) (a_number b bs begins) e
    by_value (Some v) e = (number v refl (a_number b bs begins) e, one_line is_number_byte (b ∷ bs) refl)

string_means : (text : List ℕ) → begins_string text ≡ true → Means text (string_piece text)
unfolding string_piece
string_means text begins = by_scan (scan_string text) refl
  where
    by_escape : (l : StringLiteral) (o : Option ℕ) → l.bad_escape ≡ o → scan_string text ≡ Some l → Means text (escapes_by o l.len text)
    by_escape l None e h =
        let w = scanned_within text l h in
        let long : length (take l.len text) ≡ l.len = length-take-le l.len text w.1 in
        let same : l ≡ record { len = length (take l.len text); bad_escape = None } = λ i. record { len = sym long i; bad_escape = e i } in
        let P : List ℕ → Type 0 = λ xs. scan_string xs ≡ Some l in
        (string refl (subst P (sym (whole text l.len)) h ∙ ap Some same), refl)
    by_escape l (Some at) e h = bad_escape l at h e

    by_scan : (o : Option StringLiteral) → scan_string text ≡ o → Means text (string_by o text)
    by_scan None h = open_string begins h
    by_scan (Some l) h = by_escape l l.bad_escape refl h

-- ---- operators

-- In a table, one that another begins with comes after it, and is no longer.
abbrev Later : List ℕ → List (List ℕ × Lexeme) → Type 0
Later bs [] = Unit {0}
Later bs (e ∷ es) = (starts_with nat_eq e.0 bs ≡ true → length e.0 ≤ length bs) × Later bs es

none_begins : (table : List (List ℕ × Lexeme)) (text : List ℕ) → first_spelled table text ≡ None → NoneBegins text table
none_begins [] text h = tt
none_begins (e ∷ es) text h = elim (by_bool (starts_with nat_eq text e.0)) [
  | inl t ↦ let never : Some e ≡ None = rw t at h in cc
  | inr t ↦ (t, none_begins es text (let later : first_spelled es text ≡ None = rw t at h in later))
]

abbrev short_of : (List ℕ × Lexeme) → (List ℕ × Lexeme) → Bool
short_of e y = not (starts_with nat_eq y.0 e.0) || nat_le (length y.0) (length e.0)

-- in the table, what begins with an earlier spelling is no longer than it
abbrev in_order : List (List ℕ × Lexeme) → Bool
in_order [] = true
in_order (e ∷ es) = list_all (short_of e) es && in_order es

ordered : in_order operators ≡ true
ordered = refl

split_front : (e y text : List ℕ) → text ≡ e ++ drop (length e) text → text ≡ y ++ drop (length y) text → length e ≤ length y → y ≡ e ++ drop (length e) y
split_front e y text p q le =
    let a : take (length e) y ≡ take (length e) text = sym (take-append-le (length e) y (drop (length y) text) le) ∙ ap (take (length e)) (sym q) in
    let b : take (length e) text ≡ e = ap (take (length e)) p ∙ take-append-le (length e) e (drop (length e) text) (omega arith) ∙ take_all (length e) e (omega arith) in
    sym (take-append-drop (length e) y) ∙ ap (λ z. z ++ drop (length e) y) (a ∙ b)

no_longer : (e y : List ℕ × Lexeme) (text : List ℕ) → text ≡ e.0 ++ drop (length e.0) text → short_of e y ≡ true → starts_with nat_eq text y.0 ≡ true → length y.0 ≤ length e.0
no_longer e y text p short h = by_order (below_or_not (length e.0) (length y.0))
  where
    q : text ≡ y.0 ++ drop (length y.0) text
    q = begins_so text y.0 h

    by_order : (length e.0 < length y.0) ⊎ (length y.0 ≤ length e.0) → length y.0 ≤ length e.0
    by_order (inr le) = le
    by_order (inl less) =
        let at_front = split_front e.0 y.0 text p q (omega arith) in
        let yes : starts_with nat_eq y.0 e.0 ≡ true = (starts_is Decides-eqb y.0 e.0 (starts_with nat_eq y.0 e.0) refl).1 (drop (length e.0) y.0) at_front in
        let le : nat_le (length y.0) (length e.0) ≡ true = rw yes at short in
        leb-true (length y.0) (length e.0) le

later_short : (e : List ℕ × Lexeme) (es : List (List ℕ × Lexeme)) (text : List ℕ) → text ≡ e.0 ++ drop (length e.0) text → list_all (short_of e) es ≡ true
    → NoneLonger text (length e.0) es
later_short e [] text p h = tt
later_short e (y ∷ ys) text p h =
    (no_longer e y text p (left_of (short_of e y) (list_all (short_of e) ys) h), later_short e ys text p (right_of (short_of e y) (list_all (short_of e) ys) h))

abbrev pub IsFirst : (List ℕ × Lexeme) → List (List ℕ × Lexeme) → List ℕ → Type 0
IsFirst x table text = (text ≡ x.0 ++ drop (length x.0) text) × IsListed x.1 x.0 table × NoneLonger text (length x.0) table

first_means : (table : List (List ℕ × Lexeme)) (text : List ℕ) (x : List ℕ × Lexeme) → in_order table ≡ true → first_spelled table text ≡ Some x → IsFirst x table text
first_means [] text x sorted h = cc
first_means (e ∷ es) text x sorted h = elim (by_bool (starts_with nat_eq text e.0)) [
  | inl t ↦
      let found : Some e ≡ Some x = rw t at h in
      let same : e ≡ x = cc in
      let p = begins_so text e.0 t in
      let P : List ℕ × Lexeme → Type 0 = λ y. IsFirst y (e ∷ es) text in
      subst P same (p, inl refl, ((λ _. omega arith), later_short e es text p (left_of (list_all (short_of e) es) (in_order es) sorted)))
  | inr t ↦
      let later : first_spelled es text ≡ Some x = rw t at h in
      let r = first_means es text x (right_of (list_all (short_of e) es) (in_order es) sorted) later in
      (r.0, inr r.1, ((λ yes. absurd (false_not_true (sym t ∙ yes))), r.2))
]

-- the definition finds the longest
pub first_operator : (text : List ℕ) (x : List ℕ × Lexeme) → first_spelled operators text ≡ Some x → IsFirst x operators text
first_operator text x h = first_means operators text x ordered h

-- no operator holds a newline
abbrev all_plain : List (List ℕ × Lexeme) → Bool
all_plain [] = true
all_plain (e ∷ es) = (newlines e.0 == 0) && all_plain es

listed_plain : (lexeme : Lexeme) (bs : List ℕ) (table : List (List ℕ × Lexeme)) → all_plain table ≡ true → IsListed lexeme bs table → newlines bs ≡ 0
listed_plain lexeme bs [] all i = absurd i
listed_plain lexeme bs (e ∷ es) all (inl same) =
    ap newlines (sym (ap (λ p. p.0) same)) ∙ eqb-true (newlines e.0) 0 (left_of (newlines e.0 == 0) (all_plain es) all)
listed_plain lexeme bs (e ∷ es) all (inr i) = listed_plain lexeme bs es (right_of (newlines e.0 == 0) (all_plain es) all) i

none_from : (text : List ℕ) (table : List (List ℕ × Lexeme)) → list_all (λ e. not (starts_with nat_eq text e.0)) table ≡ true → NoneBegins text table
none_from text [] h = tt
none_from text (e ∷ es) h = (
  not_true (starts_with nat_eq text e.0) (left_of (not (starts_with nat_eq text e.0)) (list_all (λ e. not (starts_with nat_eq text e.0)) es) h),
  none_from text es (right_of (not (starts_with nat_eq text e.0)) (list_all (λ e. not (starts_with nat_eq text e.0)) es) h),
)
  where
    not_true : (b : Bool) → not b ≡ true → b ≡ false
    not_true true h = cc
    not_true false h = refl

backslash_begins_none : (bs : List ℕ) → NoneBegins (92 ∷ bs) operators
backslash_begins_none bs = none_from (92 ∷ bs) operators refl

-- what is known of a text whose first byte none of the other rules takes
record Others (b : ℕ) (bs : List ℕ) : Type 0 where
  no_blank : is_blank b ≡ false
  no_string : begins_string (b ∷ bs) ≡ false
  no_letter : is_letter b ≡ false
  no_number : begins_number (b ∷ bs) ≡ false
  no_comment : (b == 35) ≡ false
  no_joint : (b == 92) ≡ false
  no_line_end : BeginsLineEnd (b ∷ bs) → ⊥

mark_means : (b : ℕ) (bs : List ℕ) → Others b bs → Means (b ∷ bs) (mark (b ∷ bs))
unfolding mark operator_at
mark_means b bs o = by_entry (first_spelled operators (b ∷ bs)) refl
  where
    by_entry : (e : Option (List ℕ × Lexeme)) → first_spelled operators (b ∷ bs) ≡ e → Means (b ∷ bs) (mark_by e)
    by_entry None e = bad_byte (omega arith) record {
      no_blank = o.no_blank;
      no_letter = o.no_letter;
      no_comment = o.no_comment;
      no_string = o.no_string;
      no_number = o.no_number;
      no_operator = none_begins operators (b ∷ bs) e;
      no_line_end = o.no_line_end;
      no_joint = λ rest same. (let is : b ≡ 92 = cc in let never : true ≡ false = rw is at o.no_joint in absurd (false_not_true (sym never)));
    }
    by_entry (Some x) e =
        let m = first_means operators (b ∷ bs) x refl e in
        let n = length x.0 in
        let front : take n (b ∷ bs) ≡ x.0 = ap (take n) m.0 ∙ take-append_seam x.0 (drop n (b ∷ bs)) in
        let P : List ℕ → Type 0 = λ z. IsListed x.1 z operators in
        let Q : List ℕ → Type 0 = λ z. NoneLonger (take n (b ∷ bs) ++ drop n (b ∷ bs)) (length z) operators in
        let R : List ℕ → Type 0 = λ z. NoneLonger z (length x.0) operators in
        let S : List ℕ → Type 0 = λ z. begins_number z ≡ false in
        let all = sym (whole (b ∷ bs) n) in (
          operator record {
            listed = subst P (sym front) m.1;
            longest = subst Q (sym front) (subst R all m.2);
            no_number = subst S all o.no_number;
          },
          sym (ap newlines front ∙ listed_plain x.1 x.0 operators refl m.1),
        )

pub means : (text : List ℕ) → 0 < length text → Means text (next_piece text)
unfolding next_piece
means [] some = absurd (omega arith)
means (b ∷ bs) some =
    let P : Piece → Type 0 = Means (b ∷ bs) in
    by_test P (is_blank b) _ _ (λ t. (blank (is_run is_blank b bs t), one_line is_blank (b ∷ bs) refl)) (λ no_blank.
    by_test P (begins_string (b ∷ bs)) _ _ (λ t. string_means (b ∷ bs) t) (λ no_string.
    by_test P (is_letter b) _ _ (λ t. word_means b bs t no_string) (λ no_letter.
    by_test P (begins_number (b ∷ bs)) _ _ (λ t. number_means b bs t) (λ no_number.
    by_test P (b == 35) _ _ (λ t. comment_means b bs t) (λ no_comment.
    by_test P (b == 92) _ _ (λ t. joint_means b bs t no_blank no_letter no_string no_number (let e = eqb-true b 92 t in rw e (backslash_begins_none bs))) (λ no_joint.
    by_test P (newline_len (b ∷ bs) == 0) _ _ (λ t. mark_means b bs record {
      no_blank = no_blank;
      no_string = no_string;
      no_letter = no_letter;
      no_number = no_number;
      no_comment = no_comment;
      no_joint = no_joint;
      no_line_end = no_end_at (b ∷ bs) (newline_len (b ∷ bs)) t (end_means (b ∷ bs));
    }) (λ t. line_end_at (b ∷ bs) (newline_len (b ∷ bs)) t (end_means (b ∷ bs)))))))))
